-- Places at which nothing is.
use Rattle.std.proofs.Common.{◌≡◌, ℕ, zero, suc, List, [], ◌∷◌, None, refl}
use Rattle.std.specs.Prelude.{slice_get, slice_index_or}

-- what is given in the place of what isn't there
pub none_there : {A : Type 0} (xs : List A) (k : ℕ) (d : A) → None ≡ slice_get xs k → slice_index_or xs k d ≡ d
none_there [] k d none = refl
none_there (x ∷ xs) zero d none = cc
none_there (x ∷ xs) (suc k) d none = none_there xs k d none
