-- Words that are too few.
use Rattle.std.proofs.Common.{◌≡◌, ◌<◌, ◌∷◌, [], ℕ, List, None, length, map, refl, arith}
use Rattle.report_seen.specs.declared.sums_form.Seconds.{Seconds}
use Rattle.report_seen.specs.SumsForm.{all_seconds, form_of, with_csv, with_each, with_seconds}

-- one word alone names no parts
pub few_parts : {A : Type 0} (f : A → List ℕ) (log : List ℕ) (s : Seconds) (words : List A) → length words < 2 →
    with_each log s (map f words) ≡ with_csv log s None (map f words)
few_parts f log s [] few = refl
few_parts f log s (w ∷ []) few = refl
few_parts f log s (v ∷ w ∷ ws) few = absurd (omega (arith, few))

-- nor any seconds
pub few_seconds : {A : Type 0} (f : A → List ℕ) (log : List ℕ) (words : List A) → length words < 2 →
    with_seconds log (map f words) ≡ with_each log all_seconds (map f words)
few_seconds f log [] few = refl
few_seconds f log (w ∷ []) few = refl
few_seconds f log (v ∷ w ∷ ws) few = absurd (omega (arith, few))

-- nor is it a form
pub few_words : {A : Type 0} (f : A → List ℕ) (words : List A) → length words < 2 → form_of (map f words) ≡ None
few_words f [] few = refl
few_words f (w ∷ []) few = refl
few_words f (v ∷ w ∷ ws) few = absurd (omega (arith, few))
