-- What an accepted file says of its interstages: one for each section of an interstage, by the rows of that section.
use Rattle.std.specs.Prelude.{◌≡◌, ℕ, ◌<◌, ◌==◌, Bool, true, false, ◌&&◌, List, [], ◌∷◌, ◌++◌, length, slice_index_or, Option, Some, None, if◌then◌else◌, ℤ}
use Rattle.sig_types.specs.Text.{number_of}
use Rattle.pua_model.specs.declared.parts.Group.{Group}
use Rattle.pua_model.specs.declared.parts.Stage.{Stage}
use Rattle.pua_model.specs.Plan.{InterstageOf}
use Rattle.pua_reader.specs.declared.form.Form.{Form}
use Rattle.pua_reader.specs.declared.form.Form.TheVariants as form
use Rattle.pua_reader.specs.declared.section.Section.{Section}
use Rattle.pua_reader.specs.declared.section.Section.TheVariants as section
use Rattle.pua_reader.specs.declared.section.Kind.{Kind}
use Rattle.pua_reader.specs.declared.section.Kind.TheVariants.{Passed, Begins, Row}
use Rattle.pua_reader.specs.Words.{Text, words, kind_of}
use Rattle.pua_reader.specs.Groups.{place_of}
use Rattle.pua_reader.specs.Stages.{stage_of}
use Rattle.pua_reader.specs.Interstages.{form_of, word, last_word, spelled_end}
use Rattle.pua_reader.specs.PlanDraft.{is_interstage}
use Rattle.pua_reader.specs.Accepted.{lines_in, refusal_of, plan_of_text}
use Rattle.pua_reader.specs.SectionRows.{section_with, file_groups, file_stages}

-- one row more in the last of some sections
abbrev pub in_last : List (List (List Text)) → List Text → List (List (List Text))
in_last [] row = []
in_last (rows ∷ []) row = (rows ++ row ∷ []) ∷ []
in_last (rows ∷ next ∷ more) row = rows ∷ in_last (next ∷ more) row

-- the sections with a line of an interstage's section more: a section line begins one, and a row stands in the last
abbrev pub part_by : Kind → List (List (List Text)) → List Text → List (List (List Text))
part_by Passed parts row = parts
part_by (Begins s) parts row = parts ++ [] ∷ []
part_by Row parts row = in_last parts row

-- the sections of interstages with one line more, which stands in the section `now`
abbrev pub part_with : Section → List (List (List Text)) → Text → List (List (List Text))
part_with now parts line = if is_interstage now then part_by (kind_of (words false line)) parts (words true line) else parts

-- the sections of interstages with these lines more, before which stand lines of the section `now`
unfoldable pub parts_from : Section → List (List (List Text)) → List Text → List (List (List Text))
parts_from now parts [] = parts
parts_from now parts (line ∷ more) = parts_from (section_with now line) (part_with (section_with now line) parts line) more

-- the rows of each section of an interstage, each by its words, in the order of the file
abbrev pub interstage_sections : List Text → List (List (List Text))
interstage_sections lines = parts_from section.Before [] lines

-- a number for each form
abbrev pub form_number : Form → ℕ
form_number form.NoForm = 0
form_number form.Number = 1
form_number form.Length = 2
form_number form.From = 3
form_number form.To = 4
form_number form.Ends = 5

-- the two forms are one
abbrev pub same_form : Form → Form → Bool
same_form a b = form_number a == form_number b

-- the values that rows of a form give: the last word of each
unfoldable pub values : Form → List (List Text) → List Text
values f [] = []
values f (row ∷ rows) = if same_form f (form_of row) then last_word row ∷ values f rows else values f rows

-- a group that is found is the one at place g
abbrev pub names_place : Option ℕ → ℕ → Bool
names_place None g = false
names_place (Some p) g = p == g

-- the red end and the green end of a group, where a row names it
unfoldable pub ends_in : List Group → List (List Text) → ℕ → Option (ℤ × ℤ)
ends_in groups [] g = None
ends_in groups (row ∷ rows) g =
    if same_form form.Ends (form_of row) && names_place (place_of groups (word row 0)) g
    then Some (spelled_end (word row 1), spelled_end (word row 2))
    else ends_in groups rows g

-- The rows of a section give this interstage: its length is the value of the only row of a length, its stages are those that the
-- only rows of the from-stage and of the to-stage name, and each group has the red end and the green end of the row that names
-- it.
pub record GivesInterstage (groups : List Group) (stages : List Stage) (rows : List (List Text)) (w : InterstageOf) : Type 0 where
  pub seconds : (value : Text) × (values form.Length rows ≡ value ∷ []) × (number_of value ≡ Some w.length)
  pub from : (value : Text) × (values form.From rows ≡ value ∷ []) × (stage_of stages value ≡ Some (record { 0 = w.from }))
  pub to : (value : Text) × (values form.To rows ≡ value ∷ []) × (stage_of stages value ≡ Some (record { 0 = w.to }))
  pub ends : (g : ℕ) → g < length groups → slice_index_or w.rows g None ≡ ends_in groups rows g

-- each section gives one interstage, in the order of the file
abbrev pub GiveInterstages : List Group → List Stage → List (List (List Text)) → List InterstageOf → Type 0
GiveInterstages groups stages [] [] = Unit {0}
GiveInterstages groups stages [] (w ∷ ws) = ⊥
GiveInterstages groups stages (rows ∷ more) [] = ⊥
GiveInterstages groups stages (rows ∷ more) (w ∷ ws) =
    GivesInterstage groups stages rows w × GiveInterstages groups stages more ws

-- an accepted file's interstages are those of its sections of interstages
abbrev pub InterstagesAreTheirSections : Type 0
InterstagesAreTheirSections = (bytes : Text) → refusal_of bytes ≡ None →
    GiveInterstages (file_groups (lines_in bytes)) (file_stages (lines_in bytes)) (interstage_sections (lines_in bytes))
    (plan_of_text bytes).interstages
