-- Lists that are the same at each place.
use Rattle.std.proofs.Common.{◌≡◌, ◌∙◌, ℕ, ◌<◌, List, [], ◌∷◌, length, refl, sym, ap, arith}
use Rattle.std.specs.Prelude.{unwrap_or}
use Rattle.std.specs.List.{slice_get}
use Rattle.std.proofs.lemmas.List.{ext_get_or}
use Rattle.std.proofs.lemmas.Option.{unwrap_or-slice_get}

pub same_list : {A : Type 0} (xs ys : List A) → length xs ≡ length ys → ((i : ℕ) → i < length xs → slice_get xs i ≡ slice_get ys i) → xs ≡ ys
same_list [] [] size same = refl
same_list [] (y ∷ ys) size same = absurd (omega (arith, size))
same_list (x ∷ xs) ys size same =
    ext_get_or x (x ∷ xs) ys size
    (λ i inside. sym (unwrap_or-slice_get (x ∷ xs) i x) ∙ ap (λ o. unwrap_or o x) (same i inside) ∙ unwrap_or-slice_get ys i x)
