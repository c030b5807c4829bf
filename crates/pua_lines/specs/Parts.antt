-- Where the parts of a plan stand in its PUA file.
use Rattle.std.specs.Prelude.{◌≡◌, ℕ, ◌+◌, ◌==◌, Bool, true, false, ◌&&◌, if◌then◌else◌}
use Rattle.std.specs.Prelude.{List, [], ◌∷◌, find, Option, Some, None}
use Rattle.std.specs.List.{filter_map}
use Rattle.std.specs.Option.{option_map, option_and_then}
use Rattle.sig_types.specs.declared.numbers.GroupNo.{GroupNo}
use Rattle.pua_model.specs.Plan.{PlanOf, group_named}
use Rattle.pua_reader.specs.declared.form.Form.TheVariants as form
use Rattle.pua_reader.specs.declared.section.Section.{Section}
use Rattle.pua_reader.specs.declared.section.Section.TheVariants as section
use Rattle.pua_reader.specs.declared.section.Kind.{Kind}
use Rattle.pua_reader.specs.declared.section.Kind.TheVariants.{Passed, Begins, Row}
use Rattle.pua_reader.specs.Words.{Text, words, kind_of}
use Rattle.pua_reader.specs.Stages.{is_stage_row}
use Rattle.pua_reader.specs.Interstages.{form_of, word}
use Rattle.pua_reader.specs.PlanDraft.{is_interstage}
use Rattle.pua_reader.specs.Accepted.{lines_in}
use Rattle.pua_reader.specs.SectionRows.{section_with, is_row, same_section}
use Rattle.pua_reader.specs.InterstageRows.{same_form}
use Rattle.pua_lines.specs.declared.part.Part.{Part}
use Rattle.pua_lines.specs.declared.part.Part.TheVariants.{Stage, Interstage, Group, Ends}
use Rattle.pua_lines.specs.declared.part.PlacedPart.{PlacedPart}
use Rattle.pua_lines.specs.declared.parts.PlanLines.{PlanLines}
use Rattle.pua_lines.specs.declared.spot.Spot.{Spot}
use Rattle.pua_lines.specs.Sections.{first_spot}

-- where a line stands: its number, its section, and how many lines up to it give a stage and begin an interstage's section
pub record PlaceOf : Type 0 where
  pub number : ℕ
  pub section : Section
  pub stages : ℕ
  pub interstages : ℕ

-- before the first line
abbrev pub start : PlaceOf
start = record { number = 0; section = section.Before; stages = 0; interstages = 0 }

-- a line of the section `now` is a row that gives a stage; a row that begins with `red` gives none
abbrev pub gives_stage : Section → Text → Bool
gives_stage now line = same_section section.Stages now && (is_row (kind_of (words false line)) && is_stage_row (words false line))

-- a line of this kind begins a section
abbrev pub is_section_line : Kind → Bool
is_section_line Passed = false
is_section_line (Begins s) = true
is_section_line Row = false

-- a line of the section `now` begins it, and it is an interstage's
abbrev pub begins_interstage : Section → Text → Bool
begins_interstage now line = is_interstage now && is_section_line (kind_of (words false line))

-- one more, where it is so
abbrev pub more_if : Bool → ℕ → ℕ
more_if is n = if is then n + 1 else n

-- where a line of the section `now` stands after a line that stands there
abbrev pub next_in : Section → PlaceOf → Text → PlaceOf
next_in now at line = record {
  number = at.number + 1;
  section = now;
  stages = more_if (gives_stage now line) at.stages;
  interstages = more_if (begins_interstage now line) at.interstages;
}

-- where a line stands after a line that stands there
unfoldable pub next : PlaceOf → Text → PlaceOf
next at line = next_in (section_with at.section line) at line

-- these lines after one that stands there, each with where it stands
unfoldable pub placed_from : PlaceOf → List Text → List (PlaceOf × Text)
placed_from at [] = []
placed_from at (line ∷ more) = (next at line, line) ∷ placed_from (next at line) more

-- the lines of a text, each with where it stands
abbrev pub placed_lines : Text → List (PlaceOf × Text)
placed_lines text = placed_from start (lines_in text)

-- a group by its place
abbrev pub group_at : ℕ → GroupNo
group_at g = record { 0 = g }

-- the group's name in a row of an interstage that gives the group's ends
abbrev pub ends_name : List Text → Option Text
ends_name ws = if same_form form.Ends (form_of ws) then Some (word ws 0) else None

-- the group of this name, as a part of the plan
abbrev pub group_part : PlanOf → Text → Option Part
group_part plan name = option_map (λ g. Group (group_at g)) (group_named plan name)

-- the ends of the group of this name in this interstage, as a part of the plan; interstages are numbered from 1
abbrev pub ends_part : PlanOf → ℕ → Text → Option Part
ends_part plan i name = option_map (λ g. Ends i (group_at g)) (group_named plan name)

-- the part that a row gives which stands there: in the section of groups the group that its first word names, in the section of
-- stages its stage, and in an interstage the ends of a group
abbrev pub row_part : Section → PlanOf → PlaceOf → Text → Option Part
row_part section.Before plan at line = None
row_part section.Groups plan at line = group_part plan (word (words false line) 0)
row_part section.Stages plan at line = if is_stage_row (words false line) then Some (Stage at.stages) else None
row_part section.Start plan at line = None
row_part section.Interstage plan at line = option_and_then (ends_part plan at.interstages) (ends_name (words true line))
row_part section.End plan at line = None

-- the part that a line of this kind gives: a section line its interstage, and a row what it says
abbrev pub kind_part : Kind → PlanOf → PlaceOf → Text → Option Part
kind_part Passed plan at line = None
kind_part (Begins s) plan at line = if is_interstage at.section then Some (Interstage at.interstages) else None
kind_part Row plan at line = row_part at.section plan at line

-- the part of a plan that a line gives which stands there: stages and interstages are numbered from 1 in the order of the file
unfoldable pub line_part : PlanOf → PlaceOf × Text → Option Part
line_part plan p = kind_part (kind_of (words false p.1)) plan p.0 p.1

-- the two parts are one
abbrev pub same_part : Part → Part → Bool
same_part (Stage m) (Stage n) = m == n
same_part (Interstage m) (Interstage n) = m == n
same_part (Group g) (Group h) = g.0 == h.0
same_part (Ends m g) (Ends n h) = (m == n) && (g.0 == h.0)
same_part _ _ = false

-- a line that gives a part gives this one
abbrev pub is_part : Part → Option Part → Bool
is_part wanted None = false
is_part wanted (Some given) = same_part given wanted

-- the first word of a line; line 0 where there is no line
abbrev pub line_spot : Option (PlaceOf × Text) → Spot
line_spot None = record { line = 0; from = 0; to = 0 }
line_spot (Some p) = first_spot p.0.number p.1

-- the first word of the first line of a text that gives this part of the plan; line 0 where none does
unfoldable pub part_spot : PlanOf → Text → Part → Spot
part_spot plan text wanted = line_spot (find (λ p. is_part wanted (line_part plan p)) (placed_lines text))

-- the first word of the row of the section of stages that gives this stage; stages are numbered from 1
abbrev pub stage_spot : PlanOf → Text → ℕ → Spot
stage_spot plan text s = part_spot plan text (Stage s)

-- the first word of the first row of the section of groups that names this group; groups are numbered from 0
abbrev pub group_spot : PlanOf → Text → ℕ → Spot
group_spot plan text g = part_spot plan text (Group (group_at g))

-- the first word of the line that begins the section of this interstage; interstages are numbered from 0
abbrev pub interstage_spot : PlanOf → Text → ℕ → Spot
interstage_spot plan text i = part_spot plan text (Interstage (i + 1))

-- the first word of the first row of this interstage that gives the ends of this group; both are numbered from 0
abbrev pub group_spot_in : PlanOf → Text → ℕ → ℕ → Spot
group_spot_in plan text i g = part_spot plan text (Ends (i + 1) (group_at g))

-- the part that a line gives, with the first word of the line
abbrev pub placed_part : PlanOf → PlaceOf × Text → Option PlacedPart
placed_part plan p = option_map (λ part. record { part = part; spot = first_spot p.0.number p.1 }) (line_part plan p)

-- the parts that these lines give, each with its place
abbrev pub placed_parts : PlanOf → List (PlaceOf × Text) → List PlacedPart
placed_parts plan lines = filter_map (placed_part plan) lines

-- the place of a part that is found, or line 0
abbrev pub found_spot : Option PlacedPart → Spot
found_spot None = record { line = 0; from = 0; to = 0 }
found_spot (Some p) = p.spot

-- these are the places of the parts of a plan in a text
unfoldable pub ArePlacesIn : PlanLines → PlanOf → Text → Type 0
ArePlacesIn lines plan text = lines.parts.items ≡ placed_parts plan (placed_lines text)
