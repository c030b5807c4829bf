-- Places that are filled one after the other.
use Rattle.std.proofs.Common.{◌≡◌, ℕ, zero, suc, ◌+◌, ◌<◌, List, [], ◌∷◌, length, get_or, Some, None, Option, refl, sym, arith, slice_set, replicate}
use Rattle.std.proofs.lemmas.Option.{none-some}
use Rattle.sig_tables.specs.Held.{empties}

pub empties_filled : {A : Type 0} (xs : List (Option A)) (k : ℕ) (x : A) → k < length xs → get_or xs k None ≡ None → empties (slice_set xs k (Some x)) + 1 ≡ empties xs
empties_filled [] k x lt none = absurd (omega arith)
empties_filled (None ∷ xs) zero x lt none = refl
empties_filled (Some y ∷ xs) zero x lt none = absurd (none-some y (sym none))
empties_filled (None ∷ xs) (suc k) x lt none = omega (arith, empties_filled xs k x (omega arith) none)
empties_filled (Some y ∷ xs) (suc k) x lt none = empties_filled xs k x (omega arith) none

pub all_empty : (A : Type 0) (n : ℕ) → empties (replicate {A = Option A} n None) ≡ n
all_empty A zero = refl
all_empty A (suc n) = omega (arith, all_empty A n)

-- nothing is in an empty place
pub none_held : (A : Type 0) (n k : ℕ) → get_or (replicate {A = Option A} n None) k None ≡ None
none_held A zero k = refl
none_held A (suc n) zero = refl
none_held A (suc n) (suc k) = none_held A n k
