use Rattle.std.proofs.Common.{◌≡◌, ◌<◌, ◌≤◌, rules, ℕ, List, [], ◌∷◌, length, map, None, string_bytes, Global, refl, arith}
use Rattle.std.specs.Prelude.{◌⊎◌}
use Rattle.std.proofs.Common.{inl, inr}
use Rattle.std.proofs.lemmas.List.{length-map}
use Rattle.tenth_report.specs.Form.{form_of}
use Rattle.tenth_report.proofs.form.form_of.Goals.{
  in_default-via-then-words-lt4,
  in_default-via-else-words-lt4+else-words-lt5+else-words-lt6+else-words-lt7+else-words-lt8,
}
use Rattle.tenth_report.proofs.form.form_of.Goals as goal

-- no form has fewer words than four, or more than seven
no_form : (words : List (List ℕ)) → (length words < 4) ⊎ (8 ≤ length words) → form_of words ≡ None
no_form [] out = refl
no_form (a ∷ []) out = refl
no_form (a ∷ b ∷ []) out = refl
no_form (a ∷ b ∷ c ∷ []) out = refl
no_form (a ∷ b ∷ c ∷ d ∷ []) out = absurd (omega (arith, out))
no_form (a ∷ b ∷ c ∷ d ∷ e ∷ []) out = absurd (omega (arith, out))
no_form (a ∷ b ∷ c ∷ d ∷ e ∷ f ∷ []) out = absurd (omega (arith, out))
no_form (a ∷ b ∷ c ∷ d ∷ e ∷ f ∷ g ∷ []) out = absurd (omega (arith, out))
no_form (a ∷ b ∷ c ∷ d ∷ e ∷ f ∷ g ∷ h ∷ words) out = refl

pub returns-in_default-clause-form : goal.returns-in_default-clause-form
returns-in_default-clause-form c =
    let words : List (List ℕ) = map (string_bytes {Z = Global}) c.args.words.now in
    let same : length words ≡ length c.args.words.now = length-map c.args.words.now (string_bytes {Z = Global}) in
    elim c.in_default.branch [
      | in_default-via-then-words-lt4 w ↦
          let less : length c.args.words.now < 4 = search rules in
          no_form words (inl (omega (arith, same, less)))
      | in_default-via-else-words-lt4+else-words-lt5+else-words-lt6+else-words-lt7+else-words-lt8 w ↦
          let more : 8 ≤ length c.args.words.now = search rules in
          no_form words (inr (omega (arith, same, more)))
    ]
