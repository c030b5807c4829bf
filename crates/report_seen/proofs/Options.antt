-- The words behind the seconds of a diagram.
use Rattle.std.proofs.Common.{◌≡◌, ℕ, suc, ◌+◌, ◌<◌, ◌≤◌, List, [], ◌∷◌, None, Err, length, map, refl, ap, arith}
use Rattle.std.specs.Prelude.{◌&&◌}
use Rattle.report_seen.specs.declared.stop.Stop.TheVariants.{Words}
use Rattle.report_seen.specs.DiagramForm.{form_of}
use Rattle.report_seen.specs.Look.{fine_to, is_fine, look_of, with_begin, with_title}

pub few_strips : {A : Type 0} (f : A → List ℕ) (words : List A) → length words < 2 → look_of (map f words) ≡ with_title 120 (map f words)
few_strips f [] few = refl
few_strips f (a ∷ []) few = refl
few_strips f (a ∷ b ∷ words) few = absurd (omega (arith, few))

pub few_titles : {A : Type 0} (f : A → List ℕ) (strip : ℕ) (words : List A) → length words < 2 → with_title strip (map f words) ≡ with_begin strip [] (map f words)
few_titles f strip [] few = refl
few_titles f strip (a ∷ []) few = refl
few_titles f strip (a ∷ b ∷ words) few = absurd (omega (arith, few))

-- one place more
pub fine_more : (title : List ℕ) (n : ℕ) → fine_to title (n + 1) ≡ (fine_to title n && is_fine title n)
unfolding fine_to
fine_more title n = let next : n + 1 ≡ suc n = omega arith in ap (λ k. fine_to title k) next

-- one word more, or three and more, are no time of the day
pub lone_word : {A : Type 0} (f : A → List ℕ) (strip : ℕ) (title : List ℕ) (words : List A) → 1 ≤ length words → length words < 2 →
    None ≡ with_begin strip title (map f words)
lone_word f strip title [] some few = absurd (omega (arith, some))
lone_word f strip title (a ∷ []) some few = refl
lone_word f strip title (a ∷ b ∷ words) some few = absurd (omega (arith, few))

pub many_words : {A : Type 0} (f : A → List ℕ) (strip : ℕ) (title : List ℕ) (words : List A) → 3 ≤ length words → None ≡ with_begin strip title (map f words)
many_words f strip title [] many = absurd (omega (arith, many))
many_words f strip title (a ∷ []) many = absurd (omega (arith, many))
many_words f strip title (a ∷ b ∷ []) many = absurd (omega (arith, many))
many_words f strip title (a ∷ b ∷ c ∷ words) many = refl

-- two words are no form, nor are three
pub two_words : {A : Type 0} (f : A → List ℕ) (words : List A) → 2 ≤ length words → length words < 3 → Err Words ≡ form_of (map f words)
two_words f [] some few = absurd (omega (arith, some))
two_words f (a ∷ []) some few = absurd (omega (arith, some))
two_words f (a ∷ b ∷ []) some few = refl
two_words f (a ∷ b ∷ c ∷ words) some few = absurd (omega (arith, few))

pub three_words : {A : Type 0} (f : A → List ℕ) (words : List A) → 3 ≤ length words → length words < 4 → Err Words ≡ form_of (map f words)
three_words f [] some few = absurd (omega (arith, some))
three_words f (a ∷ []) some few = absurd (omega (arith, some))
three_words f (a ∷ b ∷ []) some few = absurd (omega (arith, some))
three_words f (a ∷ b ∷ c ∷ []) some few = refl
three_words f (a ∷ b ∷ c ∷ d ∷ words) some few = absurd (omega (arith, few))
