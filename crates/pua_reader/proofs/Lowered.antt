-- Words in small letters, and words that stand twice.
use Rattle.std.proofs.Common.{◌≡◌, ℕ, suc, ◌<◌, Bool, true, false, not, ◌&&◌, ◌||◌, List, [], ◌∷◌, ◌++◌, length, take, drop, get_or, map, refl, sym, ap, ◌∙◌, nat_eq}
use Rattle.std.proofs.lemmas.List.{take-append-drop}
use Rattle.std.proofs.Math.Seq.{drop-cons}
use Rattle.std.specs.List.{list_any}
use Rattle.std.specs.Str.{bytes_eq}
use Rattle.std.specs.declared.cmp.Ordering.{Ordering}
use Rattle.std.specs.declared.cmp.Ordering.TheVariants.{Less, Equal, Greater}
use Rattle.std.specs.Ordering.{is_eq, nat_cmp, match_ordering}
use Rattle.std.specs.Cmp.Lexicographic.{slice_cmp}
use Rattle.std.specs.BTreeSet.{insert_key}
use Rattle.std.specs.BTreeMap.{is_at}
use Rattle.std.proofs.lemmas.Map.Text.{is_eq-slice_cmp}
use Rattle.std.proofs.lemmas.Bool.{or_parts}
use Rattle.sig_types.specs.Text.{lower, same_name}
use Rattle.pua_model.specs.Plan.{stands_in, are_apart}
use Rattle.pua_reader.specs.Words.{Text}
use Rattle.pua_reader.proofs.Small.{same_turned}

abbrev pub low : Text → Text
low w = map lower w

pub same_low : (a b : Text) → same_name a b ≡ bytes_eq (low a) (low b)
same_low [] [] = refl
same_low [] (y ∷ ys) = refl
same_low (x ∷ xs) [] = refl
same_low (x ∷ xs) (y ∷ ys) = ap (λ b. nat_eq (lower x) (lower y) && b) (same_low xs ys)

-- a word of these is this one in small letters
abbrev pub among : Text → List Text → Bool
among cs ws = list_any (λ w. bytes_eq cs (low w)) ws

pub stands_low : (w : Text) (ws : List Text) → stands_in w ws ≡ among (low w) ws
stands_low w [] = refl
stands_low w (v ∷ vs) = ap (λ b. b || stands_in w vs) (same_turned v w ∙ same_low w v) ∙ ap (λ b. bytes_eq (low w) (low v) || b) (stands_low w vs)

or_turned : (a b c : Bool) → (a || (b || c)) ≡ (b || (a || c))
or_turned true true c = refl
or_turned true false c = refl
or_turned false b c = refl

any_by : {K : Type 0} (p : K → Bool) (cmp : K → K → Ordering) (x : K) (xs : List K) (k : K) (o : Ordering) → is_eq o ≡ false →
    list_any p (insert_key cmp xs k) ≡ (p k || list_any p xs) →
    list_any p (match_ordering o (k ∷ x ∷ xs) (x ∷ xs) (x ∷ insert_key cmp xs k)) ≡ (p k || list_any p (x ∷ xs))
any_by p cmp x xs k Less ne more = refl
any_by p cmp x xs k Equal ne more = cc
any_by p cmp x xs k Greater ne more = ap (λ b. p x || b) more ∙ or_turned (p x) (p k) (list_any p xs)

pub any_insert : {K : Type 0} (p : K → Bool) (cmp : K → K → Ordering) (ks : List K) (k : K) → list_any (is_at (cmp k)) ks ≡ false →
    list_any p (insert_key cmp ks k) ≡ (p k || list_any p ks)
any_insert p cmp [] k free = refl
any_insert p cmp (x ∷ xs) k free =
    let both = or_parts (is_eq (cmp k x)) (list_any (is_at (cmp k)) xs) free in
    any_by p cmp x xs k (cmp k x) both.0 (any_insert p cmp xs k both.1)

any_push : (cs : Text) (ws : List Text) (w : Text) → among cs (ws ++ w ∷ []) ≡ (bytes_eq cs (low w) || among cs ws)
any_push cs [] w = refl
any_push cs (v ∷ vs) w = ap (λ b. bytes_eq cs (low v) || b) (any_push cs vs w) ∙ or_turned (bytes_eq cs (low v)) (bytes_eq cs (low w)) (among cs vs)

or_true : (a b : Bool) → b ≡ true → (a || b) ≡ true
or_true true b e = refl
or_true false b e = e

and_false : (a b : Bool) → b ≡ false → (a && b) ≡ false
and_false true b e = e
and_false false b e = refl

there : (v w : Text) (us more : List Text) → same_name w v ≡ true → stands_in v (us ++ w ∷ more) ≡ true
there v w [] more e = rw e refl
there v w (u ∷ us) more e = or_true (same_name u v) (stands_in v (us ++ w ∷ more)) (there v w us more e)

twice_by : (b : Bool) (v w : Text) (vs more : List Text) → same_name v w ≡ b → (b || stands_in w vs) ≡ true →
    (stands_in w vs ≡ true → are_apart (vs ++ w ∷ more) ≡ false) →
    (not (stands_in v (vs ++ w ∷ more)) && are_apart (vs ++ w ∷ more)) ≡ false
twice_by true v w vs more same h rest = let e = there v w vs more (same_turned w v ∙ same) in rw e refl
twice_by false v w vs more same h rest = and_false (not (stands_in v (vs ++ w ∷ more))) (are_apart (vs ++ w ∷ more)) (rest h)

-- a word that stood before stands twice
pub twice : (ws : List Text) (w : Text) (more : List Text) → stands_in w ws ≡ true → are_apart (ws ++ w ∷ more) ≡ false
twice [] w more h = cc
twice (v ∷ vs) w more h = twice_by (same_name v w) v w vs more refl h (λ e. twice vs w more e)

pub twice_at : (ws : List Text) (i : ℕ) (w : Text) → i < length ws → get_or ws i [] ≡ w → stands_in w (take i ws) ≡ true → are_apart ws ≡ false
twice_at ws i w lt is h =
    let tail : drop i ws ≡ w ∷ drop (suc i) ws = drop-cons ws i [] lt ∙ ap (λ (x : Text). x ∷ drop (suc i) ws) is in
    ap are_apart (sym (take-append-drop i ws) ∙ ap (λ (l : List Text). take i ws ++ l) tail) ∙ twice (take i ws) w (drop (suc i) ws) h

any_same : {K : Type 0} (p q : K → Bool) → ((k : K) → p k ≡ q k) → (ks : List K) → list_any p ks ≡ list_any q ks
any_same p q same [] = refl
any_same p q same (k ∷ ks) = ap (λ b. b || list_any p ks) (same k) ∙ ap (λ b. q k || b) (any_same p q same ks)

-- the keys of a set are the words so far, in small letters
abbrev pub AreKeys : {K : Type 0} → (K → Text) → List K → List Text → Type 0
AreKeys text keys ws = (cs : Text) → list_any (λ k. bytes_eq cs (text k)) keys ≡ among cs ws

abbrev pub by_text : {K : Type 0} → (K → Text) → K → K → Ordering
by_text text a b = slice_cmp nat_cmp (text a) (text b)

pub key_stands : {K : Type 0} (text : K → Text) (keys : List K) (key : K) (w : Text) (ws : List Text) → AreKeys text keys ws → text key ≡ low w →
    list_any (is_at (by_text text key)) keys ≡ stands_in w ws
key_stands text keys key w ws known is =
    any_same (is_at (by_text text key)) (λ k. bytes_eq (text key) (text k)) (λ k. is_eq-slice_cmp (text key) (text k)) keys
    ∙ known (text key) ∙ ap (λ (cs : Text). among cs ws) is ∙ sym (stands_low w ws)

pub keys_more : {K : Type 0} (text : K → Text) (keys : List K) (key : K) (w : Text) (ws : List Text) → AreKeys text keys ws → text key ≡ low w →
    list_any (is_at (by_text text key)) keys ≡ false → AreKeys text (insert_key (by_text text) keys key) (ws ++ w ∷ [])
keys_more text keys key w ws known is free = λ cs.
    any_insert (λ k. bytes_eq cs (text k)) (by_text text) keys key free
    ∙ ap (λ (t : Text). bytes_eq cs t || list_any (λ k. bytes_eq cs (text k)) keys) is
    ∙ ap (λ b. bytes_eq cs (low w) || b) (known cs) ∙ sym (any_push cs ws w)

pub not_not : (b : Bool) → false ≡ not b → b ≡ true
not_not true e = refl
not_not false e = cc

pub not_new : (b : Bool) → true ≡ not b → b ≡ false
not_new true e = cc
not_new false e = refl
