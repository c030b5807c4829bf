-- No tick of what came lies behind the last one.
use Rattle.std.proofs.Common.{◌≡◌, ℕ, zero, suc, ◌+◌, ◌-◌, ◌≤◌, max, Bool, true, false, ◌&&◌, List, [], ◌∷◌, ◌++◌, Option, None, Some, arith}
use Rattle.std.specs.Prelude.{nat_lt, if◌then◌else◌}
use Rattle.sig_types.specs.Turns.{Trace, is_green}
use Rattle.log_judge.specs.declared.protocol.Kind.{Kind}
use Rattle.log_judge.specs.Past.{since, last_end}
use Rattle.log_judge.specs.Breaches.{is_known}
use Rattle.log_judge.specs.Came.{from_of, is_change, last_green_to, turned_green}
use Rattle.log_protocol.specs.Came.{Lasted, both_green, change, changes_of, first_of, gather, lasted, runs_of, shorter, shortest, shortest_from, unknown_past}

-- the last tick in which one of them is over
abbrev last_over : List Lasted → ℕ
last_over [] = 0
last_over (x ∷ rest) = max x.over (last_over rest)

last_append : (xs ys : List Lasted) → last_over (xs ++ ys) ≡ max (last_over xs) (last_over ys)
last_append [] ys = omega arith
last_append (x ∷ xs) ys = omega (arith, last_append xs ys)

last_gather : (f : ℕ → List Lasted) (n : ℕ) → ((k : ℕ) → last_over (f k) ≤ k + 1) → last_over (gather f n) ≤ n
last_gather f zero each = omega arith
last_gather f (suc n) each = omega (arith, last_append (gather f n) (f n), last_gather f n each, each n)

over_shorter : (b : Bool) (x y : Lasted) → (if b then y else x).over ≤ max x.over y.over
over_shorter true x y = omega arith
over_shorter false x y = omega arith

over_from : (x : Lasted) (rest : List Lasted) → (shortest_from x rest).over ≤ max x.over (last_over rest)
over_from x [] = omega arith
over_from x (y ∷ rest) = omega (arith, over_from (shorter x y) rest, over_shorter (nat_lt y.seconds x.seconds) x y)

over_shortest : (xs : List Lasted) → (shortest xs).over ≤ last_over xs
over_shortest [] = omega arith
over_shortest (x ∷ rest) = over_from x rest

last_if : (b : Bool) (n t : ℕ) → last_over (if b then record { seconds = n; over = t } ∷ [] else []) ≤ t
last_if true n t = omega arith
last_if false n t = omega arith

last_lasted : (from : Option ℕ) (t : ℕ) → last_over (lasted from t) ≤ t
last_lasted None t = omega arith
last_lasted (Some s) t = last_if (is_known (unknown_past 0) s) (t - s) t

last_change : (turned : Bool) (green ended : Option ℕ) (t : ℕ) → last_over (change turned green ended t) ≤ t
last_change turned green None t = omega arith
last_change turned green (Some b) t = last_if (turned && is_change green b) (t - b) t

-- the shortest run is over within the history
pub runs_reached : (kind : Kind) (a : Trace) (m : ℕ) → (shortest (runs_of kind a m)).over ≤ m
runs_reached kind a m =
    omega (
      arith,
      over_shortest (runs_of kind a m),
      last_gather (λ t. lasted (from_of kind (a t) (a (suc t)) (since a t) (suc t)) (suc t)) m
          (λ k. omega (arith, last_lasted (from_of kind (a k) (a (suc k)) (since a k) (suc k)) (suc k))),
    )

-- and so is the shortest change
pub changes_reached : (a c : Trace) (m : ℕ) → (shortest (changes_of a c m)).over ≤ m
changes_reached a c m =
    omega (
      arith,
      over_shortest (changes_of a c m),
      last_gather (λ t. change (turned_green (c t) (c (suc t))) (last_green_to c t) (last_end false a (suc t)) (suc t)) m
          (λ k. omega (arith, last_change (turned_green (c k) (c (suc k))) (last_green_to c k) (last_end false a (suc k)) (suc k))),
    )

first_append : (xs ys : List ℕ) → first_of (xs ++ ys) ≤ max (first_of xs) (first_of ys)
first_append [] ys = omega arith
first_append (x ∷ xs) ys = omega arith

first_if : (b : Bool) (t : ℕ) → first_of (if b then t ∷ [] else []) ≤ t
first_if true t = omega arith
first_if false t = omega arith

-- the first tick in which both are green is one of the history
pub greens_reached : (a c : Trace) (n : ℕ) → first_of (both_green a c n) ≤ n
greens_reached a c zero = omega arith
greens_reached a c (suc n) =
    omega (
      arith,
      first_append (both_green a c n) (if is_green (a n) && is_green (c n) then n ∷ [] else []),
      greens_reached a c n,
      first_if (is_green (a n) && is_green (c n)) n,
    )
