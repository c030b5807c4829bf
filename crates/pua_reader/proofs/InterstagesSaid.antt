-- An accepted file's interstages are those of its sections of interstages.
use Rattle.std.proofs.Common.{◌≡◌, ℕ, zero, suc, ◌≤◌, ◌<◌, ◌==◌, Bool, true, false, not, ◌&&◌, List, [], ◌∷◌, ◌++◌, length, take, get_or, set, refl, sym, ap, subst, ◌∙◌, arith, Option, Some, None, if◌then◌else◌, is_some, is_none, add-one, inl, inr, eq-eqb, ne_eqb, ℤ, nat_le}
use Rattle.std.proofs.lemmas.List.{take_more, take_all, append-nil, get_or-set_same, get_or-set_other, get_or-replicate, length-replicate}
use Rattle.std.proofs.lemmas.Bool.{cases_eq}
use Rattle.sig_types.specs.FirstRefused.{refused_to, first_refused, with_line}
use Rattle.sig_types.specs.Text.{number_of}
use Rattle.sig_types.specs.declared.numbers.StageNo.{StageNo}
use Rattle.pua_model.specs.declared.parts.Group.{Group}
use Rattle.pua_model.specs.declared.parts.Stage.{Stage}
use Rattle.pua_model.specs.Plan.{InterstageOf}
use Rattle.pua_reader.specs.declared.form.Form.{Form}
use Rattle.pua_reader.specs.declared.form.Form.TheVariants as form
use Rattle.pua_reader.specs.declared.section.Section.{Section}
use Rattle.pua_reader.specs.declared.section.Section.TheVariants as section
use Rattle.pua_reader.specs.declared.section.Kind.{Kind}
use Rattle.pua_reader.specs.declared.section.Kind.TheVariants.{Passed, Begins, Row}
use Rattle.pua_reader.specs.Words.{Text, words, kind_of, is_text, signed_of, place_in_order}
use Rattle.pua_reader.specs.Groups.{place_of, groups_with}
use Rattle.pua_reader.specs.Stages.{stage_of, stages_with}
use Rattle.pua_reader.specs.Interstages.{OpenInterstageOf, open_at, form_of, word, last_word, or_none, end_or_none, set_row, length_reasons, stage_reasons, ends_reasons, form_why, open_after_form, interstage_of, interstage_by_keys, interstage_reasons, interstages_with}
use Rattle.pua_reader.specs.PlanDraft.{PlanDraftOf, draft_of, judge, line_why, after_line, row_why, row_why_in, after_row, after_row_in, interstage_end_why, after_section_end, section_why, after_section_line, at_next_line, kind_why, after_kind, is_over, is_interstage, end_why, missing_part}
use Rattle.pua_reader.specs.Accepted.{lines_in, refusal_of, plan_of_text, plan_in}
use Rattle.pua_reader.specs.Legal.{Legal}
use Rattle.pua_reader.specs.SectionRows.{section_by, section_with, section_from, file_groups, file_stages}
use Rattle.pua_reader.specs.InterstageRows.{in_last, part_by, part_with, parts_from, interstage_sections, same_form, values, names_place, ends_in, GivesInterstage, GiveInterstages, InterstagesAreTheirSections}
use Rattle.pua_reader.proofs.Small.{at_none, none_first, none_next}
use Rattle.pua_reader.proofs.Keeps.{line_legal, next_line_legal, empty_draft_legal}
use Rattle.pua_reader.proofs.Reading.{draft_of_more}
use Rattle.pua_reader.proofs.RowsSaid.{so_far_to, section_push, end_says, file_parts, over_is_end}
use Rattle.pua_reader.proofs.KeepInterstages.{set_size}

-- one row more
values_push : (f : Form) (rows : List (List Text)) (row : List Text) → values f (rows ++ row ∷ []) ≡ values f rows ++ values f (row ∷ [])
unfolding values
values_push f [] row = refl
values_push f (r ∷ rows) row = go (same_form f (form_of r)) (values_push f rows row)
  where
    go : (b : Bool) → values f (rows ++ row ∷ []) ≡ values f rows ++ values f (row ∷ []) →
        (if b then last_word r ∷ values f (rows ++ row ∷ []) else values f (rows ++ row ∷ [])) ≡
        (if b then last_word r ∷ values f rows else values f rows) ++ values f (row ∷ [])
    go true more = ap (λ l. last_word r ∷ l) more
    go false more = more

values_other : (f : Form) (row : List Text) → same_form f (form_of row) ≡ false → values f (row ∷ []) ≡ []
unfolding values
values_other f row other = rw other refl

values_here : (f : Form) (row : List Text) → same_form f (form_of row) ≡ true → values f (row ∷ []) ≡ last_word row ∷ []
unfolding values
values_here f row same = rw same refl

no_value_more : (f : Form) (rows : List (List Text)) (row : List Text) → same_form f (form_of row) ≡ false → values f (rows ++ row ∷ []) ≡ values f rows
no_value_more f rows row other = values_push f rows row ∙ ap (λ l. values f rows ++ l) (values_other f row other) ∙ append-nil (values f rows)

first_value : (f : Form) (rows : List (List Text)) (row : List Text) → same_form f (form_of row) ≡ true → values f rows ≡ [] →
    values f (rows ++ row ∷ []) ≡ last_word row ∷ []
first_value f rows row same none = values_push f rows row ∙ ap (λ l. l ++ values f (row ∷ [])) none ∙ values_here f row same

first_ends : Option (ℤ × ℤ) → Option (ℤ × ℤ) → Option (ℤ × ℤ)
first_ends None other = other
first_ends (Some e) other = Some e

ends_push : (groups : List Group) (rows : List (List Text)) (row : List Text) (g : ℕ) →
    ends_in groups (rows ++ row ∷ []) g ≡ first_ends (ends_in groups rows g) (ends_in groups (row ∷ []) g)
unfolding ends_in first_ends
ends_push groups [] row g = refl
ends_push groups (r ∷ rows) row g = go (same_form form.Ends (form_of r) && names_place (place_of groups (word r 0)) g) (ends_push groups rows row g)
  where
    go : (b : Bool) → ends_in groups (rows ++ row ∷ []) g ≡ first_ends (ends_in groups rows g) (ends_in groups (row ∷ []) g) →
        (if b then Some (end_or_none (signed_of (word r 1)), end_or_none (signed_of (word r 2))) else ends_in groups (rows ++ row ∷ []) g)
        ≡ first_ends (if b then Some (end_or_none (signed_of (word r 1)), end_or_none (signed_of (word r 2))) else ends_in groups rows g)
        (ends_in groups (row ∷ []) g)
    go true more = refl
    go false more = more

ends_then_none : (o other : Option (ℤ × ℤ)) → other ≡ None → first_ends o other ≡ o
unfolding first_ends
ends_then_none None other e = e
ends_then_none (Some x) other e = refl

no_ends_by : (b c : Bool) (x : ℤ × ℤ) → b ≡ false → (if b && c then Some x else None) ≡ None
no_ends_by true c x e = cc
no_ends_by false c x e = refl

no_ends_more : (groups : List Group) (rows : List (List Text)) (row : List Text) (g : ℕ) → same_form form.Ends (form_of row) ≡ false →
    ends_in groups (rows ++ row ∷ []) g ≡ ends_in groups rows g
unfolding ends_in
no_ends_more groups rows row g other =
    ends_push groups rows row g ∙ ends_then_none (ends_in groups rows g) _ (no_ends_by (same_form form.Ends (form_of row)) _ _ other)

-- the interstage under way, by the rows of its section so far
LengthSays : Option ℕ → List Text → Type 0
LengthSays None given = given ≡ []
LengthSays (Some n) given = (value : Text) × (given ≡ value ∷ []) × (number_of value ≡ Some n)

StageSays : Option StageNo → List Stage → List Text → Type 0
StageSays None stages given = given ≡ []
StageSays (Some s) stages given = (value : Text) × (given ≡ value ∷ []) × (stage_of stages value ≡ Some s)

record OpenSays (groups : List Group) (stages : List Stage) (rows : List (List Text)) (now : OpenInterstageOf) : Type 0 where
  pub seconds : LengthSays now.length (values form.Length rows)
  pub from : StageSays now.from stages (values form.From rows)
  pub to : StageSays now.to stages (values form.To rows)
  pub size : length now.rows ≡ length groups
  pub ends : (g : ℕ) → g < length groups → get_or now.rows g None ≡ ends_in groups rows g

open_empty : (groups : List Group) (stages : List Stage) (line : ℕ) → OpenSays groups stages [] (open_at line (length groups))
unfolding LengthSays StageSays values ends_in
open_empty groups stages line = record {
  seconds = refl;
  from = refl;
  to = refl;
  size = length-replicate (length groups) None;
  ends = λ g lt. get_or-replicate {A = Option (ℤ × ℤ)} (length groups) g None None lt;
}

no_length : (o : Option ℕ) (given : List Text) → is_some o ≡ false → LengthSays o given → given ≡ []
unfolding LengthSays
no_length None given e says = says
no_length (Some n) given e says = cc

no_stage : (o : Option StageNo) (stages : List Stage) (given : List Text) → is_some o ≡ false → StageSays o stages given → given ≡ []
unfolding StageSays
no_stage None stages given e says = says
no_stage (Some s) stages given e says = cc

length_here : (o : Option ℕ) (value : Text) (given : List Text) → number_of value ≡ o → not (nat_le 1 (or_none o) && nat_le (or_none o) 126) ≡ false
    → given ≡ value ∷ [] → LengthSays o given
unfolding LengthSays
length_here None value given is fits e = cc
length_here (Some n) value given is fits e = (value, e, is)

stage_here : (o : Option StageNo) (stages : List Stage) (value : Text) (given : List Text) → stage_of stages value ≡ o → is_none o ≡ false →
    given ≡ value ∷ [] → StageSays o stages given
unfolding StageSays
stage_here None stages value given is some e = cc
stage_here (Some s) stages value given is some e = (value, e, is)

length_more : (given : Option ℕ) (rows : List (List Text)) (row : List Text) → form_of row ≡ form.Length → LengthSays given (values form.Length rows) →
    length_reasons given (or_none (number_of (last_word row))) ≡ None → LengthSays (number_of (last_word row)) (values form.Length (rows ++ row ∷ []))
unfolding length_reasons
length_more given rows row here says none =
    let one = none_first (is_some given) _ _ none in
    let two = none_first (not (nat_le 1 (or_none (number_of (last_word row))) && nat_le (or_none (number_of (last_word row))) 126)) _ _ one.1 in
    length_here (number_of (last_word row)) (last_word row) _ refl two.0
    (first_value form.Length rows row (ap (same_form form.Length) here) (no_length given (values form.Length rows) one.0 says))

stage_more : (f : Form) (given : Option StageNo) (stages : List Stage) (rows : List (List Text)) (row : List Text) → same_form f (form_of row) ≡ true
    → StageSays given stages (values f rows) →
    stage_reasons given (stage_of stages (last_word row)) ≡ None → StageSays (stage_of stages (last_word row)) stages (values f (rows ++ row ∷ []))
unfolding stage_reasons
stage_more f given stages rows row here says none =
    let one = none_first (is_some given) _ _ none in
    let two = none_first (is_none (stage_of stages (last_word row))) _ _ one.1 in
    stage_here (stage_of stages (last_word row)) stages (last_word row) _ refl two.0
    (first_value f rows row here (no_stage given stages (values f rows) one.0 says))

none_held : (o : Option (ℤ × ℤ)) → is_some o ≡ false → o ≡ None
none_held None e = refl
none_held (Some x) e = cc

row_ends : (groups : List Group) (row : List Text) (g p : ℕ) → same_form form.Ends (form_of row) ≡ true → place_of groups (word row 0) ≡ Some p →
    ends_in groups (row ∷ []) g ≡ (if p == g then Some (end_or_none (signed_of (word row 1)), end_or_none (signed_of (word row 2))) else None)
unfolding ends_in
row_ends groups row g p here place = rw (here, place) refl

ends_set : (groups : List Group) (held : List (Option (ℤ × ℤ))) (rows : List (List Text)) (row : List Text) (o : Option ℕ) →
    same_form form.Ends (form_of row) ≡ true → place_of groups (word row 0) ≡ o →
    length held ≡ length groups → ((g : ℕ) → g < length groups → get_or held g None ≡ ends_in groups rows g) →
    ends_reasons held o (end_or_none (signed_of (word row 1))) (end_or_none (signed_of (word row 2))) ≡ None →
    (g : ℕ) → g < length groups → get_or (set_row held o (end_or_none (signed_of (word row 1))) (end_or_none (signed_of (word row 2)))) g None ≡
    ends_in groups (rows ++ row ∷ []) g
unfolding ends_reasons first_ends
ends_set groups held rows row None here place size each none g lt = cc
ends_set groups held rows row (Some p) here place size each none g lt =
    let one = none_first (is_some (get_or held p None)) _ _ none in
    let new : ℤ × ℤ = (end_or_none (signed_of (word row 1)), end_or_none (signed_of (word row 2))) in
    elim (cases_eq g p) [
      | inl same ↦ (let inside : p < length held = omega (arith, same, lt, size) in
          let free : ends_in groups rows g ≡ None = sym (each g lt) ∙ ap (λ k. get_or held k None) same ∙ none_held (get_or held p None) one.0 in
          let one_here : ends_in groups (row ∷ []) g ≡ Some new = row_ends groups row g p here place ∙ rw (eq-eqb p g (sym same)) refl in
          ap (λ k. get_or (set held p (Some new)) k None) same ∙ get_or-set_same held p (Some new) None inside
          ∙ sym (ends_push groups rows row g ∙ rw (free, one_here) refl))
      | inr other ↦ (let none_here : ends_in groups (row ∷ []) g ≡ None = row_ends groups row g p here place ∙ rw (ne_eqb p g (λ e. other (sym e))) refl in
          get_or-set_other held p g (Some new) None other ∙ each g lt ∙ sym (ends_push groups rows row g ∙ ends_then_none (ends_in groups rows g) _ none_here))
    ]

-- a row by its form
form_says : (f : Form) (groups : List Group) (stages : List Stage) (rows : List (List Text)) (now : OpenInterstageOf) (row : List Text) →
    form_of row ≡ f → OpenSays groups stages rows now →
    form_why f groups stages now row ≡ None → OpenSays groups stages (rows ++ row ∷ []) (open_after_form f groups stages now row)
form_says form.NoForm groups stages rows now row here says none = cc
form_says form.Number groups stages rows now row here says none = record {
  seconds = rw (no_value_more form.Length rows row (ap (same_form form.Length) here)) says.seconds;
  from = rw (no_value_more form.From rows row (ap (same_form form.From) here)) says.from;
  to = rw (no_value_more form.To rows row (ap (same_form form.To) here)) says.to;
  size = says.size;
  ends = λ g lt. says.ends g lt ∙ sym (no_ends_more groups rows row g (ap (same_form form.Ends) here));
}
form_says form.Length groups stages rows now row here says none = record {
  seconds = length_more now.length rows row here says.seconds none;
  from = rw (no_value_more form.From rows row (ap (same_form form.From) here)) says.from;
  to = rw (no_value_more form.To rows row (ap (same_form form.To) here)) says.to;
  size = says.size;
  ends = λ g lt. says.ends g lt ∙ sym (no_ends_more groups rows row g (ap (same_form form.Ends) here));
}
form_says form.From groups stages rows now row here says none = record {
  seconds = rw (no_value_more form.Length rows row (ap (same_form form.Length) here)) says.seconds;
  from = stage_more form.From now.from stages rows row (ap (same_form form.From) here) says.from none;
  to = rw (no_value_more form.To rows row (ap (same_form form.To) here)) says.to;
  size = says.size;
  ends = λ g lt. says.ends g lt ∙ sym (no_ends_more groups rows row g (ap (same_form form.Ends) here));
}
form_says form.To groups stages rows now row here says none = record {
  seconds = rw (no_value_more form.Length rows row (ap (same_form form.Length) here)) says.seconds;
  from = rw (no_value_more form.From rows row (ap (same_form form.From) here)) says.from;
  to = stage_more form.To now.to stages rows row (ap (same_form form.To) here) says.to none;
  size = says.size;
  ends = λ g lt. says.ends g lt ∙ sym (no_ends_more groups rows row g (ap (same_form form.Ends) here));
}
form_says form.Ends groups stages rows now row here says none = record {
  seconds = rw (no_value_more form.Length rows row (ap (same_form form.Length) here)) says.seconds;
  from = rw (no_value_more form.From rows row (ap (same_form form.From) here)) says.from;
  to = rw (no_value_more form.To rows row (ap (same_form form.To) here)) says.to;
  size = set_size now.rows (place_of groups (word row 0)) (end_or_none (signed_of (word row 1))) (end_or_none (signed_of (word row 2))) ∙ says.size;
  ends = ends_set groups now.rows rows row (place_of groups (word row 0)) (ap (same_form form.Ends) here) refl says.size says.ends none;
}

-- a section that ended gives its interstage
given_length : (o : Option ℕ) (n : ℕ) (given : List Text) → o ≡ Some n → LengthSays o given → (value : Text) × (given ≡ value ∷ []) × (number_of value ≡ Some n)
unfolding LengthSays
given_length None n given e says = cc
given_length (Some m) n given e says = (says.0, says.1, says.2 ∙ e)

given_stage : (o : Option StageNo) (s : StageNo) (stages : List Stage) (given : List Text) → o ≡ Some s → StageSays o stages given → (value : Text)
    × (given ≡ value ∷ []) × (stage_of stages value ≡ Some s)
unfolding StageSays
given_stage None s stages given e says = cc
given_stage (Some t) s stages given e says = (says.0, says.1, says.2 ∙ e)

gives : (groups : List Group) (stages : List Stage) (rows : List (List Text)) (n : Option ℕ) (a b : Option StageNo) (ends : List (Option (ℤ × ℤ)))
    (w : InterstageOf) →
    LengthSays n (values form.Length rows) → StageSays a stages (values form.From rows) → StageSays b stages (values form.To rows) →
    ((g : ℕ) → g < length groups → get_or ends g None ≡ ends_in groups rows g) → interstage_by_keys n a b ends ≡ Some w → GivesInterstage groups stages rows w
gives groups stages rows None a b ends w sn sa sb each is = cc
gives groups stages rows (Some n) None b ends w sn sa sb each is = cc
gives groups stages rows (Some n) (Some a) None ends w sn sa sb each is = cc
gives groups stages rows (Some n) (Some a) (Some b) ends w sn sa sb each is =
    let same : record { from = a.0; to = b.0; length = n; rows = ends } ≡ w = some_same _ w is in
    subst (λ (v : InterstageOf). GivesInterstage groups stages rows v) same
    (record {
      seconds = given_length (Some n) n _ refl sn;
      from = given_stage (Some a) a stages _ refl sa;
      to =
          given_stage (Some b) b stages _ refl sb;
      ends = each;
    })
  where
    some_same : (v u : InterstageOf) → Some v ≡ Some u → v ≡ u
    some_same v u e = cc

-- sections and interstages, pair by pair
gives_push : (groups : List Group) (stages : List Stage) (parts : List (List (List Text))) (ws : List InterstageOf) (rows : List (List Text))
    (w : InterstageOf) → GiveInterstages groups stages parts ws →
    GivesInterstage groups stages rows w → GiveInterstages groups stages (parts ++ rows ∷ []) (ws ++ w ∷ [])
gives_push groups stages [] [] rows w all one = (one, tt)
gives_push groups stages [] (v ∷ ws) rows w all one = absurd all
gives_push groups stages (p ∷ parts) [] rows w all one = absurd all
gives_push groups stages (p ∷ parts) (v ∷ ws) rows w all one = (all.0, gives_push groups stages parts ws rows w all.1 one)

gives_none : (groups groups2 : List Group) (stages stages2 : List Stage) (parts : List (List (List Text))) (ws : List InterstageOf) → ws ≡ [] →
    GiveInterstages groups stages parts ws →
    GiveInterstages groups2 stages2 parts ws
gives_none groups groups2 stages stages2 [] [] e all = tt
gives_none groups groups2 stages stages2 [] (w ∷ ws) e all = absurd all
gives_none groups groups2 stages stages2 (p ∷ parts) [] e all = absurd all
gives_none groups groups2 stages stages2 (p ∷ parts) (w ∷ ws) e all = cc

last_grows : (closed : List (List (List Text))) (rows : List (List Text)) (row : List Text) →
    in_last (closed ++ rows ∷ []) row ≡ closed ++ (rows ++ row ∷ []) ∷ []
last_grows [] rows row = refl
last_grows (p ∷ []) rows row = refl
last_grows (p ∷ q ∷ more) rows row = ap (λ l. p ∷ l) (last_grows (q ∷ more) rows row)

parts_push : (now : Section) (parts : List (List (List Text))) (xs : List Text) (x : Text) →
    parts_from now parts (xs ++ x ∷ []) ≡ part_with (section_with (section_from now xs) x) (parts_from now parts xs) x
unfolding parts_from section_from
parts_push now parts [] x = refl
parts_push now parts (y ∷ ys) x = parts_push (section_with now y) (part_with (section_with now y) parts y) ys x

-- a draft's interstages are those of the sections that ended, and the one under way is that of the last section
PartsIn : Bool → PlanDraftOf → List (List (List Text)) → Type 0
PartsIn true d parts =
    (closed : List (List (List Text))) × (rows : List (List Text)) × (parts ≡ closed ++ rows ∷ [])
    × GiveInterstages d.groups d.stages closed d.interstages × OpenSays d.groups d.stages rows d.current
PartsIn false d parts = GiveInterstages d.groups d.stages parts d.interstages

parts_counted : (b : Bool) (d : PlanDraftOf) (parts : List (List (List Text))) → PartsIn b d parts → PartsIn b (at_next_line d) parts
unfolding PartsIn
parts_counted true d parts says = says
parts_counted false d parts says = says

whole_interstage_of : (groups : List Group) (stages : List Stage) (ws : List InterstageOf) (o : Option InterstageOf) →
    interstage_reasons groups stages ws o ≡ None → (w : InterstageOf) × (o ≡ Some w)
unfolding interstage_reasons
whole_interstage_of groups stages ws None none = cc
whole_interstage_of groups stages ws (Some w) none = (w, refl)

-- the end of a section
end_gives : (b : Bool) (d : PlanDraftOf) (parts : List (List (List Text))) → PartsIn b d parts →
    (if b then with_line d.current.line (interstage_reasons d.groups d.stages d.interstages (interstage_of d.current)) else None) ≡ None →
    PartsIn false (if b then record d { interstages = interstages_with d.interstages (interstage_of d.current); current = open_at 0 0 } else d) parts
unfolding PartsIn
end_gives false d parts says none = says
end_gives true d parts says none =
    let whole = whole_interstage_of d.groups d.stages d.interstages (interstage_of d.current) (at_none d.current.line _ none) in
    let given = gives d.groups d.stages says.1 d.current.length d.current.from d.current.to d.current.rows whole.0 says.4.seconds says.4.from
    says.4.to says.4.ends whole.1 in
    rw (says.2, ap (interstages_with d.interstages) whole.1) (gives_push d.groups d.stages says.0 d.interstages says.1 whole.0 says.3 given)

section_ends : (d : PlanDraftOf) (parts : List (List (List Text))) → PartsIn (is_interstage d.section) d parts → interstage_end_why d ≡ None →
    PartsIn false (after_section_end d) parts
unfolding interstage_end_why after_section_end
section_ends d parts says none = end_gives (is_interstage d.section) d parts says none

begin_parts : (b : Bool) (d : PlanDraftOf) (s : Section) (parts : List (List (List Text))) → PartsIn false d parts →
    PartsIn b (if b then record d { section = s; current = open_at d.lines (length d.groups) } else record d { section = s })
    (if b then parts ++ [] ∷ [] else parts)
unfolding PartsIn
begin_parts true d s parts says = (parts, [], refl, says, open_empty d.groups d.stages d.lines)
begin_parts false d s parts says = says

section_begins : (d : PlanDraftOf) (s : Section) (parts : List (List (List Text))) → PartsIn false d parts →
    PartsIn (is_interstage s) (after_section_line d s) (if is_interstage s then parts ++ [] ∷ [] else parts)
unfolding after_section_line
section_begins d s parts says = begin_parts (is_interstage s) d s parts says

-- a row, by the section in which it stands
row_in_gives : (s : Section) (d : PlanDraftOf) (line : Text) (parts : List (List (List Text))) → d.section ≡ s → Legal d →
    PartsIn (is_interstage s) d parts → row_why_in s d line ≡ None →
    PartsIn (is_interstage s) (after_row_in s d line) (if is_interstage s then in_last parts (words true line) else parts)
unfolding PartsIn
row_in_gives section.Before d line parts here legal says none = cc
row_in_gives section.Groups d line parts here legal says none =
    let early : place_in_order d.section ≡ 1 = ap place_in_order here in
    gives_none d.groups (groups_with d.groups (words false line)) d.stages d.stages parts d.interstages (legal.no_interstages (omega (arith, early))) says
row_in_gives section.Stages d line parts here legal says none =
    let early : place_in_order d.section ≡ 2 = ap place_in_order here in
    gives_none d.groups d.groups d.stages (stages_with d.groups d.stages (words false line)) parts d.interstages
    (legal.no_interstages (omega (arith, early))) says
row_in_gives section.Start d line parts here legal says none = says
row_in_gives section.Interstage d line parts here legal says none = (
  says.0,
  says.1 ++ words true line ∷ [],
  ap (λ l. in_last l (words true line)) says.2 ∙ last_grows says.0 says.1 (words true line),
  says.3,
  form_says (form_of (words true line)) d.groups d.stages says.1 d.current (words true line) refl says.4 none,
)
row_in_gives section.End d line parts here legal says none = says

row_gives : (d : PlanDraftOf) (line : Text) (parts : List (List (List Text))) → Legal d → PartsIn (is_interstage d.section) d parts → row_why d line ≡ None →
    PartsIn (is_interstage d.section) (after_row d line) (if is_interstage d.section then in_last parts (words true line) else parts)
unfolding row_why after_row
row_gives d line parts legal says none =
    let one = none_first (not (is_text line)) _ _ none in
    row_in_gives d.section d line parts refl legal says (none_next (row_why_in d.section d line) None one.1).0

same_either : (b : Bool) (parts : List (List (List Text))) → (if b then parts else parts) ≡ parts
same_either true parts = refl
same_either false parts = refl

kind_gives : (k : Kind) (d : PlanDraftOf) (line : Text) (parts : List (List (List Text))) → Legal d → PartsIn (is_interstage d.section) d parts →
    kind_why k d line ≡ None →
    PartsIn (is_interstage (section_by d.section k)) (after_kind k d line)
    (if is_interstage (section_by d.section k) then part_by k parts (words true line) else parts)
kind_gives Passed d line parts legal says none = rw (same_either (is_interstage d.section) parts) says
kind_gives (Begins s) d line parts legal says none =
    let both = none_next (interstage_end_why d) (with_line d.lines (section_why (after_section_end d) s line)) none in
    section_begins (after_section_end d) s parts (section_ends d parts says both.0)
kind_gives Row d line parts legal says none = row_gives d line parts legal says (at_none d.lines _ none)

line_gives_by : (b : Bool) (d : PlanDraftOf) (line : Text) (parts : List (List (List Text))) → is_over d.section ≡ b → Legal d →
    PartsIn (is_interstage d.section) d parts →
    (if b then None else kind_why (kind_of (words false line)) (at_next_line d) line) ≡ None →
    PartsIn (is_interstage (if b then d.section else section_by d.section (kind_of (words false line))))
    (if b then at_next_line d else after_kind (kind_of (words false line)) (at_next_line d) line)
    (part_with (if b then d.section else section_by d.section (kind_of (words false line))) parts line)
line_gives_by true d line parts over legal says none =
    let last : d.section ≡ section.End = over_is_end d.section over in
    let same : part_with d.section parts line ≡ parts = ap (λ s. part_with s parts line) last in
    rw same (parts_counted (is_interstage d.section) d parts says)
line_gives_by false d line parts over legal says none =
    kind_gives (kind_of (words false line)) (at_next_line d) line parts (next_line_legal d legal) (parts_counted (is_interstage d.section) d parts says) none

line_gives : (d : PlanDraftOf) (line : Text) (parts : List (List (List Text))) → Legal d → PartsIn (is_interstage d.section) d parts → line_why d line ≡ None →
    PartsIn (is_interstage (section_with d.section line)) (after_line d line) (part_with (section_with d.section line) parts line)
unfolding line_why after_line
line_gives d line parts legal says none = line_gives_by (is_over d.section) d line parts refl legal says none

-- all lines so far
record GivenSoFar (before : List Text) (d : PlanDraftOf) : Type 0 where
  pub legal : Legal d
  pub parts : PartsIn (is_interstage (section_from section.Before before)) d (interstage_sections before)

given_more : (before : List Text) (d : PlanDraftOf) (line : Text) → d.section ≡ section_from section.Before before → GivenSoFar before d →
    line_why d line ≡ None →
    GivenSoFar (before ++ line ∷ []) (after_line d line)
given_more before d line here given none =
    let now : PartsIn (is_interstage d.section) d (interstage_sections before) =
    subst (λ (s : Section). PartsIn (is_interstage s) d (interstage_sections before)) (sym here) given.parts in
    let next = line_gives d line (interstage_sections before) given.legal now none in
    record {
      legal = line_legal d line given.legal none;
      parts = rw (section_push section.Before before line, parts_push section.Before [] before line)
          (subst (λ (s : Section). PartsIn (is_interstage (section_with s line)) (after_line d line)
          (part_with (section_with s line) (interstage_sections before) line)) here next);
    }

given_none : GivenSoFar [] (draft_of [])
unfolding draft_of section_from parts_from PartsIn
given_none = record { legal = empty_draft_legal; parts = tt }

given_to : (all : List Text) (n : ℕ) → n ≤ length all → refused_to judge all [] n ≡ None → GivenSoFar (take n all) (draft_of (take n all))
unfolding refused_to
given_to all zero le none = given_none
given_to all (suc n) le none =
    let lt : n < length all = omega (arith, le) in
    let parts = none_next (refused_to judge all [] n) (judge (take n all) (get_or all n [])) none in
    let so = so_far_to all n (omega (arith, le)) parts.0 in
    let next = given_more (take n all) (draft_of (take n all)) (get_or all n []) so.arrived (given_to all n (omega (arith, le)) parts.0) parts.1 in
    rw (← add-one, draft_of_more all n lt, take_more all n [] lt) next

-- the whole file
ended_gives : (e : PlanDraftOf) (groups : List Group) (stages : List Stage) (parts : List (List (List Text))) → e.groups ≡ groups → e.stages ≡ stages
    → PartsIn false e parts →
    GiveInterstages groups stages parts e.interstages
unfolding PartsIn
ended_gives e groups stages parts same_groups same_stages says = rw (← same_groups, ← same_stages) says

draft_gives : (lines : List Text) → first_refused judge lines [] ≡ None → end_why (draft_of lines) ≡ None →
    GiveInterstages (file_groups lines) (file_stages lines) (interstage_sections lines) (plan_in (after_section_end (draft_of lines))).interstages
unfolding end_why
draft_gives lines none ended =
    let so = rw (take_all (length lines) lines (omega arith)) at (so_far_to lines (length lines) (omega arith) none) in
    let given = rw (take_all (length lines) lines (omega arith)) at (given_to lines (length lines) (omega arith) none) in
    let both = none_next (interstage_end_why (draft_of lines)) (with_line 0 (missing_part (after_section_end (draft_of lines)))) ended in
    let now : PartsIn (is_interstage (draft_of lines).section) (draft_of lines) (interstage_sections lines) =
    subst (λ (s : Section). PartsIn (is_interstage s) (draft_of lines) (interstage_sections lines)) (sym so.arrived) given.parts in
    let there = file_parts (after_section_end (draft_of lines)) lines (end_says (draft_of lines) _ _ _ so.says) in
    ended_gives (after_section_end (draft_of lines)) (file_groups lines) (file_stages lines) (interstage_sections lines) there.0 there.1
    (section_ends (draft_of lines) (interstage_sections lines) now both.0)

pub interstages_are_their_sections : InterstagesAreTheirSections
unfolding refusal_of plan_of_text
interstages_are_their_sections bytes none =
    let parts = none_next (first_refused judge (lines_in bytes) []) (end_why (draft_of (lines_in bytes))) none in
    draft_gives (lines_in bytes) parts.0 parts.1
