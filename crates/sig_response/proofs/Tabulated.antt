-- What stands in a list of so many values.
use Rattle.std.proofs.Common.{◌≡◌, ℕ, zero, suc, ◌<◌, Bool, false, [], ◌∷◌, length, slice_index_or, refl, sym, ap, ◌∙◌, arith, inl, inr}
use Rattle.std.proofs.Math.ListN.{length-append}
use Rattle.std.proofs.lemmas.Bool.{cases_eq}
use Rattle.std.proofs.lemmas.List.{get_or_append_left, get_or_push}
use Rattle.sig_types.specs.Words.{tabulate}

tabulate_length : (f : ℕ → Bool) (n : ℕ) → length (tabulate f n) ≡ n
tabulate_length f zero = refl
tabulate_length f (suc n) = length-append (tabulate f n) (f n ∷ []) ∙ omega (arith, tabulate_length f n)

pub tabulate_at : (f : ℕ → Bool) (n g : ℕ) → g < n → slice_index_or (tabulate f n) g false ≡ f g
tabulate_at f zero g lt = absurd (omega arith)
tabulate_at f (suc n) g lt = elim (cases_eq g n) [
  | inl same ↦ get_or_push (tabulate f n) (f n) false g (tabulate_length f n ∙ sym same) ∙ ap f (sym same)
  | inr ne ↦ get_or_append_left (tabulate f n) (f n ∷ []) false g (omega (arith, tabulate_length f n)) ∙ tabulate_at f n g (omega arith)
]
