-- The extremes of a list that grows at its end, and that those which are kept second by second are those of the whole.
use Rattle.std.proofs.Common.{◌≡◌, ◌∙◌, ℕ, zero, suc, ◌+◌, ◌-◌, ◌<◌, ◌≤◌, max, Bool, true, false, ◌&&◌, ◌||◌, ◌==◌, List, [], ◌∷◌, ◌++◌, length, Option, None, Some, refl, sym, ap, arith, ne_eqb}
use Rattle.std.specs.Prelude.{nat_lt, if◌then◌else◌}
use Rattle.std.proofs.lemmas.Bool.{lt-ltb}
use Rattle.std.proofs.lemmas.List.{append-nil}
use Rattle.std.proofs.Math.ListN.{length-append}
use Rattle.sig_types.specs.Turns.{Trace}
use Rattle.log_judge.specs.declared.protocol.Kind.{Kind}
use Rattle.log_judge.specs.declared.protocol.Extremes.{Extremes}
use Rattle.log_judge.specs.Past.{since, last_end}
use Rattle.log_judge.specs.Breaches.{is_known}
use Rattle.log_judge.specs.Came.{from_of, with_run, with_change, one_more, runs_to, changes_to, is_change, last_green_to, turned_green}
use Rattle.log_protocol.specs.Came.{Lasted, unknown_past, lasted, change, runs_of, changes_of, shorter, shortest_from, longest, extremes}
use Rattle.log_protocol.proofs.Gathered.{few_if, gather_few}

-- the first of the shortest, with one more at the end
shortest_more : (x : Lasted) (rest : List Lasted) (y : Lasted) → shortest_from x (rest ++ y ∷ []) ≡ shorter (shortest_from x rest) y
shortest_more x [] y = refl
shortest_more x (z ∷ rest) y = shortest_more (shorter x z) rest y

longest_more : (xs : List Lasted) (y : Lasted) → longest (xs ++ y ∷ []) ≡ max (longest xs) y.seconds
longest_more [] y = omega arith
longest_more (x ∷ rest) y = omega (arith, longest_more rest y)

pub seconds_of : (b : Bool) (y s : Lasted) → (if b then y else s).seconds ≡ (if b then y.seconds else s.seconds)
seconds_of true y s = refl
seconds_of false y s = refl

pub over_of : (b : Bool) (y s : Lasted) → (if b then y else s).over ≡ (if b then y.over else s.over)
over_of true y s = refl
over_of false y s = refl

pick_seconds : (s y : Lasted) (c : ℕ) → 0 < c → (shorter s y).seconds ≡ (if (c == 0) || nat_lt y.seconds s.seconds then y.seconds else s.seconds)
pick_seconds s y c some = rw (ne_eqb c 0 (λ e. omega (arith, e, some))) (seconds_of (nat_lt y.seconds s.seconds) y s)

pick_over : (s y : Lasted) (c : ℕ) → 0 < c → (shorter s y).over ≡ (if (c == 0) || nat_lt y.seconds s.seconds then y.over else s.over)
pick_over s y c some = rw (ne_eqb c 0 (λ e. omega (arith, e, some))) (over_of (nat_lt y.seconds s.seconds) y s)

count_more : (c : ℕ) → c < 6048002 → c + 1 ≡ (if nat_lt c 6048002 then c + 1 else c)
count_more c few = rw (lt-ltb c 6048002 few) refl

pub same_extremes : (c c' l l' s s' m m' : ℕ) → c ≡ c' → l ≡ l' → s ≡ s' → m ≡ m' →
    (let x : Extremes = record { count = c; least = l; second = s; most = m } in x) ≡ record { count = c'; least = l'; second = s'; most = m' }
same_extremes c c' l l' s s' m m' h1 h2 h3 h4 = rw (h1, h2, h3, h4) refl

pub extremes_more : (xs : List Lasted) (y : Lasted) → length xs < 6048002 → extremes (xs ++ y ∷ []) ≡ one_more (extremes xs) y.seconds y.over
extremes_more [] y few = same_extremes _ _ _ _ _ _ _ _ refl refl refl (longest_more [] y)
extremes_more (x ∷ rest) y few =
    let size : length ((x ∷ rest) ++ y ∷ []) ≡ length (x ∷ rest) + 1 = omega (arith, length-append (x ∷ rest) (y ∷ [])) in
    same_extremes _ _ _ _ _ _ _ _
    (size ∙ count_more (length (x ∷ rest)) few)
    (ap (λ (w : Lasted). w.seconds) (shortest_more x rest y) ∙ pick_seconds (shortest_from x rest) y (length (x ∷ rest)) (omega arith))
    (ap (λ (w : Lasted). w.over) (shortest_more x rest y) ∙ pick_over (shortest_from x rest) y (length (x ∷ rest)) (omega arith))
    (longest_more (x ∷ rest) y)

-- one that lasted, or none
with_lasted : (xs : List Lasted) (from : Option ℕ) (t : ℕ) → length xs < 6048002 →
    with_run (unknown_past 0) (extremes xs) from t ≡ extremes (xs ++ lasted from t)
with_lasted xs None t few = ap extremes (sym (append-nil xs))
with_lasted xs (Some s) t few = go (is_known (unknown_past 0) s)
  where
    go : (b : Bool) → (if b then one_more (extremes xs) (t - s) t else extremes xs)
        ≡ extremes (xs ++ (if b then record { seconds = t - s; over = t } ∷ [] else []))
    go true = sym (extremes_more xs (record { seconds = t - s; over = t }) few)
    go false = ap extremes (sym (append-nil xs))

-- a change, or none
with_changed : (xs : List Lasted) (turned : Bool) (green ended : Option ℕ) (t : ℕ) → length xs < 6048002 →
    with_change (extremes xs) turned green ended t ≡ extremes (xs ++ change turned green ended t)
with_changed xs turned green None t few = ap extremes (sym (append-nil xs))
with_changed xs turned green (Some b) t few = go (turned && is_change green b)
  where
    go : (y : Bool) → (if y then one_more (extremes xs) (t - b) t else extremes xs)
        ≡ extremes (xs ++ (if y then record { seconds = t - b; over = t } ∷ [] else []))
    go true = sym (extremes_more xs (record { seconds = t - b; over = t }) few)
    go false = ap extremes (sym (append-nil xs))

few_lasted : (from : Option ℕ) (t : ℕ) → length (lasted from t) ≤ 1
few_lasted None t = omega arith
few_lasted (Some s) t = let x : Lasted = record { seconds = t - s; over = t } in few_if (is_known (unknown_past 0) s) x

few_changes : (turned : Bool) (green ended : Option ℕ) (t : ℕ) → length (change turned green ended t) ≤ 1
few_changes turned green None t = omega arith
few_changes turned green (Some b) t = let x : Lasted = record { seconds = t - b; over = t } in few_if (turned && is_change green b) x

-- no more runs are over than there are pictures behind the first one
pub few_runs_of : (kind : Kind) (a : Trace) (m : ℕ) → length (runs_of kind a m) ≤ m
few_runs_of kind a m =
    gather_few (λ t. lasted (from_of kind (a t) (a (suc t)) (since a t) (suc t)) (suc t)) m
    (λ t. few_lasted (from_of kind (a t) (a (suc t)) (since a t) (suc t)) (suc t))

-- and no more changes
pub few_changes_of : (a c : Trace) (m : ℕ) → length (changes_of a c m) ≤ m
few_changes_of a c m =
    gather_few (λ t. change (turned_green (c t) (c (suc t))) (last_green_to c t) (last_end false a (suc t)) (suc t)) m
    (λ t. few_changes (turned_green (c t) (c (suc t))) (last_green_to c t) (last_end false a (suc t)) (suc t))

-- what is kept of the runs of a group second by second are the extremes of all of them
pub runs_are : (kind : Kind) (a : Trace) (m : ℕ) → m ≤ 6048002 → runs_to (unknown_past 0) kind a m ≡ extremes (runs_of kind a m)
runs_are kind a zero few = refl
runs_are kind a (suc m) few =
    let size : length (runs_of kind a m) ≤ m = few_runs_of kind a m in
    ap (λ (x : Extremes). with_run (unknown_past 0) x (from_of kind (a m) (a (suc m)) (since a m) (suc m)) (suc m)) (runs_are kind a m (omega arith))
    ∙ with_lasted (runs_of kind a m) (from_of kind (a m) (a (suc m)) (since a m) (suc m)) (suc m) (omega arith)

-- and so of the changes between two groups
pub changes_are : (a c : Trace) (m : ℕ) → m ≤ 6048002 → changes_to (unknown_past 0) a c m ≡ extremes (changes_of a c m)
changes_are a c zero few = refl
changes_are a c (suc m) few =
    let size : length (changes_of a c m) ≤ m = few_changes_of a c m in
    ap (λ (x : Extremes). with_change x (turned_green (c m) (c (suc m))) (last_green_to c m) (last_end false a (suc m)) (suc m)) (changes_are a c m (omega arith))
    ∙ with_changed (changes_of a c m) (turned_green (c m) (c (suc m))) (last_green_to c m) (last_end false a (suc m)) (suc m) (omega arith)
