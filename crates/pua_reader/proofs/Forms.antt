-- What the forms of a row say of its words.
use Rattle.std.proofs.Common.{◌≡◌, ◌≤◌, Bool, true, false, ◌&&◌, ◌||◌, List, [], ◌∷◌, length, refl, subst, arith, if◌then◌else◌, is_some}
use Rattle.std.specs.Prelude.{codes}
use Rattle.std.proofs.lemmas.Bool.{and_parts}
use Rattle.sig_types.specs.Text.{same_name, number_of, is_name}
use Rattle.pua_reader.specs.declared.form.Form.{Form}
use Rattle.pua_reader.specs.declared.form.Form.TheVariants as form
use Rattle.pua_reader.specs.Words.{Text, signed_of}
use Rattle.pua_reader.specs.Stages.{is_stage_word}
use Rattle.pua_reader.specs.Interstages.{form_of, form_of_two, form_of_three, stage_form, word, last_word}

-- a key has a value, its last word, and a group's row has its ends
abbrev pub FormIs : Form → List Text → Type 0
FormIs form.NoForm ws = Unit {0}
FormIs form.Number ws = Unit {0}
FormIs form.Length ws = (1 ≤ length ws) × (is_some (number_of (last_word ws)) ≡ true)
FormIs form.From ws = 1 ≤ length ws
FormIs form.To ws = 1 ≤ length ws
FormIs form.Ends ws = (length ws ≡ 3) × (is_some (signed_of (word ws 1)) ≡ true) × (is_some (signed_of (word ws 2)) ≡ true)

pick : (ws : List Text) (b : Bool) (x y : Form) → FormIs x ws → FormIs y ws → FormIs (if b then x else y) ws
pick ws true x y p q = p
pick ws false x y p q = q

number_is : (ws : List Text) (b : Bool) → 1 ≤ length ws → is_some (number_of (last_word ws)) ≡ b → FormIs (if b then form.Length else form.NoForm) ws
number_is ws true some is = (some, is)
number_is ws false some is = tt

stage_is : (ws : List Text) (f : Form) (w : Text) → FormIs f ws → FormIs (stage_form f w) ws
stage_is ws f w p = pick ws (is_stage_word w) f form.NoForm p tt

ends_is : (a b c : Text) (t : Bool) → (is_name a && is_some (signed_of b) && is_some (signed_of c)) ≡ t →
    FormIs (if t then form.Ends else form.NoForm) (a ∷ b ∷ c ∷ [])
ends_is a b c true is =
    let one = and_parts (is_name a && is_some (signed_of b)) (is_some (signed_of c)) is in
    let two = and_parts (is_name a) (is_some (signed_of b)) one.0 in
    (refl, two.1, one.1)
ends_is a b c false is = tt

two_is : (a b : Text) → FormIs (form_of_two a b) (a ∷ b ∷ [])
unfolding form_of_two
two_is a b =
    pick _ (same_name a (codes "length") || same_name a (codes "length[s]")) _ _ (number_is (a ∷ b ∷ []) (is_some (number_of b)) (omega arith) refl)
    (pick _ (same_name a (codes "from_stage")) _ _ (stage_is (a ∷ b ∷ []) form.From b (omega arith))
    (pick _ (same_name a (codes "to_stage")) _ _ (stage_is (a ∷ b ∷ []) form.To b (omega arith))
    (pick _ (same_name a (codes "interstage_number")) form.Number form.NoForm tt tt)))

three_is : (a b c : Text) → FormIs (form_of_three a b c) (a ∷ b ∷ c ∷ [])
unfolding form_of_three
three_is a b c =
    pick _ (same_name a (codes "length")) _ _
    (pick _ (same_name b (codes "[s]")) _ form.NoForm (number_is (a ∷ b ∷ c ∷ []) (is_some (number_of c)) (omega arith) refl) tt)
    (pick _ (same_name a (codes "from") && same_name b (codes "stage")) _ _ (stage_is (a ∷ b ∷ c ∷ []) form.From c (omega arith))
    (pick _ (same_name a (codes "to") && same_name b (codes "stage")) _ _ (stage_is (a ∷ b ∷ c ∷ []) form.To c (omega arith))
    (pick _ (same_name a (codes "interstage") && same_name b (codes "number")) form.Number _ tt (ends_is a b c _ refl))))

pub form_is : (ws : List Text) → FormIs (form_of ws) ws
form_is [] = tt
form_is (a ∷ []) = tt
form_is (a ∷ b ∷ []) = two_is a b
form_is (a ∷ b ∷ c ∷ []) = three_is a b c
form_is (a ∷ b ∷ c ∷ d ∷ more) = tt

pub form_gives : (ws : List Text) (f : Form) → form_of ws ≡ f → FormIs f ws
form_gives ws f e = subst (λ (x : Form). FormIs x ws) e (form_is ws)
