-- What an accepted file says: its plan by the rows of its sections.
use Rattle.std.specs.Prelude.{◌≡◌, ℕ, ◌+◌, ◌==◌, Bool, true, false, ◌&&◌, List, [], ◌∷◌, ◌++◌, length, map, Option, Some, None, if◌then◌else◌}
use Rattle.pua_model.specs.declared.parts.Group.{Group}
use Rattle.pua_model.specs.declared.parts.Stage.{Stage}
use Rattle.pua_model.specs.Plan.{PlanOf}
use Rattle.pua_reader.specs.declared.section.Section.{Section}
use Rattle.pua_reader.specs.declared.section.Section.TheVariants as section
use Rattle.pua_reader.specs.declared.section.Kind.{Kind}
use Rattle.pua_reader.specs.declared.section.Kind.TheVariants.{Passed, Begins, Row}
use Rattle.pua_reader.specs.Words.{Text, words, kind_of, place_in_order}
use Rattle.pua_reader.specs.Groups.{group_row, put}
use Rattle.pua_reader.specs.Stages.{is_red_word, greens_of, stage_of}
use Rattle.pua_reader.specs.PlanDraft.{is_over, is_interstage}
use Rattle.pua_reader.specs.Accepted.{lines_in, refusal_of, plan_of_text}

-- a section line stands in the section that it begins, and any other line in that of the line before
abbrev pub section_by : Section → Kind → Section
section_by now Passed = now
section_by now (Begins s) = s
section_by now Row = now

-- the section in which a line stands, after lines of the section `now`; after `$END` no line begins another
abbrev pub section_with : Section → Text → Section
section_with now line = if is_over now then now else section_by now (kind_of (words false line))

-- the section in which the last of these lines stands
unfoldable pub section_from : Section → List Text → Section
section_from now [] = now
section_from now (line ∷ more) = section_from (section_with now line) more

-- a line of this kind is a row
abbrev pub is_row : Kind → Bool
is_row Passed = false
is_row (Begins s) = false
is_row Row = true

-- the two sections are one
abbrev pub same_section : Section → Section → Bool
same_section a b = place_in_order a == place_in_order b

-- the words of a line that stands in the section `now`, where it is a row of the section that is wanted
abbrev pub row_here : Section → Section → Text → List (List Text)
row_here wanted now line =
    if same_section wanted now && is_row (kind_of (words false line)) then words (is_interstage wanted) line ∷ [] else []

-- the rows of the section that is wanted among these lines, before which stand lines of the section `now`
unfoldable pub rows_from : Section → Section → List Text → List (List Text)
rows_from wanted now [] = []
rows_from wanted now (line ∷ more) = row_here wanted (section_with now line) line ++ rows_from wanted (section_with now line) more

-- the rows of a section, each by its words, in the order of the file
abbrev pub rows_in : Section → List Text → List (List Text)
rows_in wanted lines = rows_from wanted section.Before lines

-- the group of a row, where it has one, before the others
abbrev pub group_before : Option Group → List Group → List Group
group_before None groups = groups
group_before (Some g) groups = g ∷ groups

-- the groups of these rows: `NAME NUMBER`, or `NAME` alone, whose number is the row's place; the first row has the place `place`
unfoldable pub groups_from : ℕ → List (List Text) → List Group
groups_from place [] = []
groups_from place (row ∷ rows) = group_before (group_row place row) (groups_from (place + 1) rows)

-- the sorted groups with all these, each put where its number belongs
abbrev pub put_all : List Group → List Group → List Group
put_all sorted [] = sorted
put_all sorted (g ∷ more) = put_all (put g sorted) more

-- groups by rising number: each is put where its number belongs
abbrev pub by_number : List Group → List Group
by_number groups = put_all [] groups

-- the groups of a file: those of the rows of its section of groups
unfoldable pub file_groups : List Text → List Group
file_groups lines = by_number (groups_from 1 (rows_in section.Groups lines))

-- the stages of these rows: each row but a `red` one is a stage, in which the groups that it names are green
unfoldable pub stages_from : List Group → List (List Text) → List Stage
stages_from groups [] = []
stages_from groups ([] ∷ rows) = stages_from groups rows
stages_from groups ((name ∷ named) ∷ rows) =
    if is_red_word name then stages_from groups rows
    else record { name = name; greens = greens_of groups named } ∷ stages_from groups rows

-- the stages of a file: those of the rows of its section of stages, in their order
unfoldable pub file_stages : List Text → List Stage
file_stages lines = stages_from (file_groups lines) (rows_in section.Stages lines)

-- The plan has a group for each row of the section of groups, by rising number; stage k is that of the k-th stage row, with its
-- green groups; and the run starts in the stage that the only row of the starting stage names.
pub record SaysItsRows (plan : PlanOf) (lines : List Text) : Type 0 where
  pub each_row : length plan.names ≡ length (rows_in section.Groups lines)
  pub names : plan.names ≡ map (λ g. g.name) (file_groups lines)
  pub numbers : plan.numbers ≡ map (λ g. g.number) (file_groups lines)
  pub stage_names : plan.stage_names ≡ map (λ s. s.name) (file_stages lines)
  pub stages : plan.stages ≡ map (λ s. s.greens) (file_stages lines)
  pub start : (word : Text) × (rows_in section.Start lines ≡ (word ∷ []) ∷ [])
      × (stage_of (file_stages lines) word ≡ Some (record { 0 = plan.start }))

-- an accepted file's plan says what its rows say
abbrev pub PlanSaysItsRows : Type 0
PlanSaysItsRows = (bytes : Text) → refusal_of bytes ≡ None → SaysItsRows (plan_of_text bytes) (lines_in bytes)
