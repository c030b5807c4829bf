-- The rows of an interstage that give the ends of a group.
use Rattle.std.proofs.Common.{◌≡◌, Bool, true, false, ◌&&◌, ◌||◌, [], ◌∷◌, refl, None, if◌then◌else◌, codes, is_some}
use Rattle.sig_types.specs.Text.{same_name, is_name, number_of}
use Rattle.pua_reader.specs.declared.form.Form.{Form}
use Rattle.pua_reader.specs.declared.form.Form.TheVariants as form
use Rattle.pua_reader.specs.Words.{Text, signed_of}
use Rattle.pua_reader.specs.Stages.{is_stage_word}
use Rattle.pua_reader.specs.Interstages.{number_form, stage_form, ends_form, form_of_two, form_of_three}
use Rattle.pua_reader.specs.InterstageRows.{same_form}
use Rattle.pua_lines.specs.Parts.{ends_name}

-- a form that is not that of ends, or none
chosen : (b : Bool) (f : Form) → same_form form.Ends f ≡ false → same_form form.Ends (if b then f else form.NoForm) ≡ false
chosen true f other = other
chosen false f other = refl

ends_chosen : (b : Bool) → same_form form.Ends (if b then form.Ends else form.NoForm) ≡ b
ends_chosen true = refl
ends_chosen false = refl

three_by : (l s fs ts n : Bool) (a b c : Text) →
    same_form form.Ends (if l then (if s then number_form c else form.NoForm) else if fs then stage_form form.From c
    else if ts then stage_form form.To c else if n then form.Number else ends_form a b c)
    ≡ (if l then false else if fs then false else if ts then false else if n then false
    else (is_name a && is_some (signed_of b) && is_some (signed_of c)))
three_by true true fs ts n a b c = chosen (is_some (number_of c)) form.Length refl
three_by true false fs ts n a b c = refl
three_by false s true ts n a b c = chosen (is_stage_word c) form.From refl
three_by false s false true n a b c = chosen (is_stage_word c) form.To refl
three_by false s false false true a b c = refl
three_by false s false false false a b c = ends_chosen (is_name a && is_some (signed_of b) && is_some (signed_of c))

-- three words give ends where they are no key, a name and two signed numbers
pub ends_of_three : (a b c : Text) → same_form form.Ends (form_of_three a b c)
    ≡ (if same_name a (codes "length") then false else if same_name a (codes "from") && same_name b (codes "stage") then false
    else if same_name a (codes "to") && same_name b (codes "stage") then false
    else if same_name a (codes "interstage") && same_name b (codes "number") then false
    else (is_name a && is_some (signed_of b) && is_some (signed_of c)))
unfolding form_of_three
ends_of_three a b c =
    three_by (same_name a (codes "length")) (same_name b (codes "[s]")) (same_name a (codes "from") && same_name b
    (codes "stage"))
    (same_name a (codes "to") && same_name b (codes "stage")) (same_name a (codes "interstage") && same_name b
    (codes "number")) a b c

two_by : (l f t i : Bool) (b : Text) →
    same_form form.Ends (if l then number_form b else if f then stage_form form.From b else if t then stage_form form.To b
    else if i then form.Number else form.NoForm) ≡ false
two_by true f t i b = chosen (is_some (number_of b)) form.Length refl
two_by false true t i b = chosen (is_stage_word b) form.From refl
two_by false false true i b = chosen (is_stage_word b) form.To refl
two_by false false false true b = refl
two_by false false false false b = refl

-- two words give none
two_none : (a b : Text) → same_form form.Ends (form_of_two a b) ≡ false
unfolding form_of_two
two_none a b =
    two_by (same_name a (codes "length") || same_name a (codes "length[s]")) (same_name a (codes "from_stage"))
    (same_name a (codes "to_stage")) (same_name a (codes "interstage_number")) b

pub no_ends_of_two : (a b : Text) → ends_name (a ∷ b ∷ []) ≡ None
no_ends_of_two a b = rw (two_none a b) refl
