-- Words that are no form.
use Rattle.std.proofs.Common.{◌≡◌, ℕ, ◌<◌, List, [], ◌∷◌, length, map, Err, refl, arith}
use Rattle.report_seen.specs.declared.stop.Stop.TheVariants.{Words}
use Rattle.report_judged.specs.SiteForm.{form_of}

-- fewer than eight words are no form
pub few_words : {A : Type 0} (bytes : A → List ℕ) (words : List A) → length words < 8 → Err Words ≡ form_of (map bytes words)
few_words bytes [] few = refl
few_words bytes (a ∷ []) few = refl
few_words bytes (a ∷ b ∷ []) few = refl
few_words bytes (a ∷ b ∷ c ∷ []) few = refl
few_words bytes (a ∷ b ∷ c ∷ d ∷ []) few = refl
few_words bytes (a ∷ b ∷ c ∷ d ∷ e ∷ []) few = refl
few_words bytes (a ∷ b ∷ c ∷ d ∷ e ∷ f ∷ []) few = refl
few_words bytes (a ∷ b ∷ c ∷ d ∷ e ∷ f ∷ g ∷ []) few = refl
few_words bytes (a ∷ b ∷ c ∷ d ∷ e ∷ f ∷ g ∷ h ∷ words) few = absurd (omega (arith, few))
