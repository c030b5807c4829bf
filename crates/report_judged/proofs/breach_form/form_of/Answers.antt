use Rattle.std.proofs.Common.{◌≡◌, ◌<◌, ◌≤◌, rules, ℕ, Bool, true, false, List, [], ◌∷◌, length, map, Option, None, string_bytes, Global, refl, arith, codes, get_or}
use Rattle.std.specs.Prelude.{if◌then◌else◌, ◌⊎◌}
use Rattle.std.proofs.Common.{inl, inr}
use Rattle.std.proofs.lemmas.List.{length-map}
use Rattle.std.specs.Str.{bytes_eq}
use Rattle.report_judged.specs.BreachForm.{Asked, form_of}
use Rattle.report_judged.proofs.breach_form.form_of.Goals.{
  in_default-via-then-words-lt5,
  in_default-via-else-words-lt5+else-words-lt6+else-words-lt7+else-words-lt8+else-words-lt9,
}
use Rattle.report_judged.proofs.breach_form.form_of.Goals as goal

either_none : (b : Bool) → (let none : Option Asked = None in if b then none else none) ≡ None
either_none true = refl
either_none false = refl

-- no form has fewer words than five, or more than eight
no_form : (words : List (List ℕ)) → (length words < 5) ⊎ (9 ≤ length words) → form_of words ≡ None
no_form [] out = refl
no_form (a ∷ []) out = refl
no_form (a ∷ b ∷ []) out = refl
no_form (a ∷ b ∷ c ∷ []) out = refl
no_form (a ∷ b ∷ c ∷ d ∷ []) out = refl
no_form (a ∷ b ∷ c ∷ d ∷ e ∷ []) out = absurd (omega (arith, out))
no_form (a ∷ b ∷ c ∷ d ∷ e ∷ f ∷ []) out = absurd (omega (arith, out))
no_form (a ∷ b ∷ c ∷ d ∷ e ∷ f ∷ g ∷ []) out = absurd (omega (arith, out))
no_form (a ∷ b ∷ c ∷ d ∷ e ∷ f ∷ g ∷ h ∷ []) out = absurd (omega (arith, out))
no_form (a ∷ b ∷ c ∷ d ∷ e ∷ f ∷ g ∷ h ∷ i ∷ words) out = either_none (bytes_eq a (codes "breaches"))

pub returns-in_default-clause-form : goal.returns-in_default-clause-form
returns-in_default-clause-form c =
    let words : List (List ℕ) = map (string_bytes {Z = Global}) c.args.words.now in
    let same : length words ≡ length c.args.words.now = length-map c.args.words.now (string_bytes {Z = Global}) in
    elim c.in_default.branch [
      | in_default-via-then-words-lt5 w ↦
          let less : length c.args.words.now < 5 = search rules in
          no_form words (inl (omega (arith, same, less)))
      | in_default-via-else-words-lt5+else-words-lt6+else-words-lt7+else-words-lt8+else-words-lt9 w ↦
          let more : 9 ≤ length c.args.words.now = search rules in
          no_form words (inr (omega (arith, same, more)))
    ]

-- eight words, each by its place
eight : {A : Type 0} (words : List A) (a b c d e f g h : A) → length words ≡ 8 → a ≡ get_or words 0 a → b ≡ get_or words 1 b → c ≡ get_or words 2 c →
    d ≡ get_or words 3 d → e ≡ get_or words 4 e → f ≡ get_or words 5 f → g ≡ get_or words 6 g → h ≡ get_or words 7 h →
    words ≡ a ∷ b ∷ c ∷ d ∷ e ∷ f ∷ g ∷ h ∷ []
eight [] a b c d e f g h n p0 p1 p2 p3 p4 p5 p6 p7 = absurd (omega (arith, n))
eight (x0 ∷ []) a b c d e f g h n p0 p1 p2 p3 p4 p5 p6 p7 = absurd (omega (arith, n))
eight (x0 ∷ x1 ∷ []) a b c d e f g h n p0 p1 p2 p3 p4 p5 p6 p7 = absurd (omega (arith, n))
eight (x0 ∷ x1 ∷ x2 ∷ []) a b c d e f g h n p0 p1 p2 p3 p4 p5 p6 p7 = absurd (omega (arith, n))
eight (x0 ∷ x1 ∷ x2 ∷ x3 ∷ []) a b c d e f g h n p0 p1 p2 p3 p4 p5 p6 p7 = absurd (omega (arith, n))
eight (x0 ∷ x1 ∷ x2 ∷ x3 ∷ x4 ∷ []) a b c d e f g h n p0 p1 p2 p3 p4 p5 p6 p7 = absurd (omega (arith, n))
eight (x0 ∷ x1 ∷ x2 ∷ x3 ∷ x4 ∷ x5 ∷ []) a b c d e f g h n p0 p1 p2 p3 p4 p5 p6 p7 = absurd (omega (arith, n))
eight (x0 ∷ x1 ∷ x2 ∷ x3 ∷ x4 ∷ x5 ∷ x6 ∷ []) a b c d e f g h n p0 p1 p2 p3 p4 p5 p6 p7 = absurd (omega (arith, n))
eight (x0 ∷ x1 ∷ x2 ∷ x3 ∷ x4 ∷ x5 ∷ x6 ∷ x7 ∷ []) a b c d e f g h n p0 p1 p2 p3 p4 p5 p6 p7 =
    let q0 : a ≡ x0 = p0 in
    let q1 : b ≡ x1 = p1 in
    let q2 : c ≡ x2 = p2 in
    let q3 : d ≡ x3 = p3 in
    let q4 : e ≡ x4 = p4 in
    let q5 : f ≡ x5 = p5 in
    let q6 : g ≡ x6 = p6 in
    let q7 : h ≡ x7 = p7 in
    cc
eight (x0 ∷ x1 ∷ x2 ∷ x3 ∷ x4 ∷ x5 ∷ x6 ∷ x7 ∷ x8 ∷ more) a b c d e f g h n p0 p1 p2 p3 p4 p5 p6 p7 = absurd (omega (arith, n))

pub returns-in-len8-clause-form : goal.returns-in-len8-clause-form
returns-in-len8-clause-form c =
    let n : length c.args.words.now ≡ 8 = omega (arith, c.in-len8.len_at_least, c.in-len8.len_below) in
    let same = eight c.args.words.now c.word-item-then-words-lt9.result c.log-item-then-words-lt9.result c.plan-item-then-words-lt9.result
    c.times-item-then-words-lt9.result c.intergreens-item-then-words-lt9.result c.first-item.result c.second-item.result c.third-item.result n
    c.word-item-then-words-lt9.is c.log-item-then-words-lt9.is c.plan-item-then-words-lt9.is c.times-item-then-words-lt9.is
    c.intergreens-item-then-words-lt9.is c.first-item.is c.second-item.is c.third-item.is in
    rw same
    (rw (
      c.as_str-in-len8.ensures.value,
      c.as_str-in-len8-2.ensures.value,
      c.site_words-in-len8.ensures,
      c.three_words.ensures.options,
      c.as_str-in-len8-3.ensures.value,
      c.as_str-in-len8-4.ensures.value,
      c.as_str-in-len8-5.ensures.value,
    ) at c.form_by-in-len8.ensures.form)
