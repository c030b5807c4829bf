use Rattle.std.proofs.Common.{◌≡◌, ◌<◌, ◌≤◌, rules, ℕ, List, [], ◌∷◌, length, map, None, string_bytes, Global, refl, arith}
use Rattle.std.proofs.lemmas.List.{length-map}
use Rattle.junction_run.specs.Form.{form_of}
use Rattle.junction_run.proofs.form.form_of.Goals.{
  in_default-via-then-words-lt2,
  in_default-via-else-words-lt2+else-words-lt3+then-words-lt5,
  in_default-via-else-words-lt2+else-words-lt3+else-words-lt5+else-words-lt6+else-words-lt7+else-words-lt8,
}
use Rattle.junction_run.proofs.form.form_of.Goals as goal

-- no form has another number of words
no_form : (words : List (List ℕ)) → (length words ≡ 2 → ⊥) → (length words ≡ 5 → ⊥) → (length words ≡ 6 → ⊥) → (length words ≡ 7 → ⊥) → form_of words ≡ None
no_form [] two five six seven = refl
no_form (a ∷ []) two five six seven = refl
no_form (a ∷ b ∷ []) two five six seven = absurd (two refl)
no_form (a ∷ b ∷ c ∷ []) two five six seven = refl
no_form (a ∷ b ∷ c ∷ d ∷ []) two five six seven = refl
no_form (a ∷ b ∷ c ∷ d ∷ e ∷ []) two five six seven = absurd (five refl)
no_form (a ∷ b ∷ c ∷ d ∷ e ∷ f ∷ []) two five six seven = absurd (six refl)
no_form (a ∷ b ∷ c ∷ d ∷ e ∷ f ∷ g ∷ []) two five six seven = absurd (seven refl)
no_form (a ∷ b ∷ c ∷ d ∷ e ∷ f ∷ g ∷ h ∷ words) two five six seven = refl

pub returns-in_default : goal.returns-in_default
returns-in_default c =
    let words : List (List ℕ) = map (string_bytes {Z = Global}) c.args.words.now in
    let same : length words ≡ length c.args.words.now = length-map c.args.words.now (string_bytes {Z = Global}) in
    elim c.in_default.branch [
      | in_default-via-then-words-lt2 w ↦
          let less : length c.args.words.now < 2 = search rules in
          no_form words (λ e. omega (arith, e, same, less)) (λ e. omega (arith, e, same, less)) (λ e. omega (arith, e, same, less))
          (λ e. omega (arith, e, same, less))
      | in_default-via-else-words-lt2+else-words-lt3+then-words-lt5 w ↦
          let more : 3 ≤ length c.args.words.now = search rules in
          let less : length c.args.words.now < 5 = search rules in
          no_form words (λ e. omega (arith, e, same, more)) (λ e. omega (arith, e, same, less)) (λ e. omega (arith, e, same, less))
          (λ e. omega (arith, e, same, less))
      | in_default-via-else-words-lt2+else-words-lt3+else-words-lt5+else-words-lt6+else-words-lt7+else-words-lt8 w ↦
          let more : 8 ≤ length c.args.words.now = search rules in
          no_form words (λ e. omega (arith, e, same, more)) (λ e. omega (arith, e, same, more)) (λ e. omega (arith, e, same, more))
          (λ e. omega (arith, e, same, more))
    ]
