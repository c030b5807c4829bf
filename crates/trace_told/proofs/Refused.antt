-- Refused turns, one after the other.
use Rattle.std.proofs.Common.{◌≡◌, ◌∙◌, ◌+◌, ℕ, zero, suc, List, [], ◌∷◌, ◌++◌, Some, take, sym, ap, append_assoc, add-one}
use Rattle.std.proofs.lemmas.List.{append-nil}
use Rattle.std.specs.Prelude.{slice_get}
use Rattle.std.specs.List.{flat_map}

some_same : {A : Type 0} (a b : A) → Some a ≡ Some b → a ≡ b
some_same a b is = cc

next : {A : Type 0} (f : A → List ℕ) (xs : List A) (i : ℕ) (x : A) → slice_get xs i ≡ Some x →
    flat_map f (take i xs) ++ f x ≡ flat_map f (take (suc i) xs)
next f [] i x is = absurd cc
next f (y ∷ xs) zero x is = ap f (sym (some_same y x is)) ∙ sym (append-nil (f y))
next f (y ∷ xs) (suc i) x is = append_assoc (f y) (flat_map f (take i xs)) (f x) ∙ ap (λ l. f y ++ l) (next f xs i x is)

-- one item more
pub item_more : {A : Type 0} (f : A → List ℕ) (xs : List A) (i : ℕ) (x : A) → slice_get xs i ≡ Some x →
    flat_map f (take i xs) ++ f x ≡ flat_map f (take (i + 1) xs)
item_more f xs i x is = rw add-one (next f xs i x is)
