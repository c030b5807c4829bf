-- What the lines of a file have told so far, and the reason to refuse the next one.
use Rattle.std.specs.Prelude.{ℕ, ◌+◌, ◌==◌, Bool, true, false, not, ◌&&◌, ◌||◌, List, [], ◌∷◌, length, Option, Some, None, if◌then◌else◌, nat_le, fold, is_none}
use Rattle.std.specs.Option.{option_or}
use Rattle.sig_types.specs.FirstRefused.{first_reason, when, with_line}
use Rattle.sig_types.specs.declared.numbers.StageNo.{StageNo}
use Rattle.pua_model.specs.declared.parts.Group.{Group}
use Rattle.pua_model.specs.declared.parts.Stage.{Stage}
use Rattle.pua_model.specs.Plan.{InterstageOf}
use Rattle.pua_reader.specs.declared.refusal.PuaWhy.{PuaWhy}
use Rattle.pua_reader.specs.declared.refusal.PuaWhy.TheVariants as why
use Rattle.pua_reader.specs.declared.section.Section.{Section}
use Rattle.pua_reader.specs.declared.section.Section.TheVariants as section
use Rattle.pua_reader.specs.declared.section.Kind.{Kind}
use Rattle.pua_reader.specs.declared.section.Kind.TheVariants.{Passed, Begins, Row}
use Rattle.pua_reader.specs.Words.{Text, words, kind_of, may_follow, is_text}
use Rattle.pua_reader.specs.Groups.{group_why, groups_with}
use Rattle.pua_reader.specs.Stages.{stage_row_why, stages_with, is_stage_row, start_why, start_with}
use Rattle.pua_reader.specs.Interstages.{OpenInterstageOf, open_at, interstage_row_why, open_after, interstage_of, interstage_reasons, interstages_with}

-- the section in which the lines have arrived, their number, what the rows have given, whether the last row was a stage's, and
-- the interstage whose section has not ended
pub record PlanDraftOf : Type 0 where
  pub section : Section
  pub lines : ℕ
  pub groups : List Group
  pub stages : List Stage
  pub after_stage : Bool
  pub start : Option StageNo
  pub interstages : List InterstageOf
  pub current : OpenInterstageOf

-- before the first line
abbrev pub empty_draft : PlanDraftOf
empty_draft = record {
  section = section.Before;
  lines = 0;
  groups = [];
  stages = [];
  after_stage = false;
  start = None;
  interstages = [];
  current = open_at 0 0;
}

-- why a row of this section is refused
abbrev pub row_why_in : Section → PlanDraftOf → Text → Option PuaWhy
row_why_in section.Before g line = Some why.Section
row_why_in section.Groups g line = group_why g.groups (words false line)
row_why_in section.Stages g line = stage_row_why g.groups g.stages g.after_stage (words false line)
row_why_in section.Start g line = start_why g.stages g.start (words false line)
row_why_in section.Interstage g line = interstage_row_why g.groups g.stages g.current (words true line)
row_why_in section.End g line = None

-- why a row is refused: it is no text, or its section has no such row
unfoldable pub row_why : PlanDraftOf → Text → Option PuaWhy
row_why g line = first_reason (when (not (is_text line)) why.NotText ∷ row_why_in g.section g line ∷ [])

-- the draft after a row of this section
abbrev pub after_row_in : Section → PlanDraftOf → Text → PlanDraftOf
after_row_in section.Before g line = g
after_row_in section.Groups g line = record g { groups = groups_with g.groups (words false line) }
after_row_in section.Stages g line =
    record g { stages = stages_with g.groups g.stages (words false line); after_stage = is_stage_row (words false line) }
after_row_in section.Start g line = record g { start = start_with g.stages (words false line) }
after_row_in section.Interstage g line = record g { current = open_after g.groups g.stages g.current (words true line) }
after_row_in section.End g line = g

-- the draft after a row
unfoldable pub after_row : PlanDraftOf → Text → PlanDraftOf
after_row g line = after_row_in g.section g line

-- the section is that of an interstage
abbrev pub is_interstage : Section → Bool
is_interstage section.Interstage = true
is_interstage _ = false

-- where an interstage's section ends, it is judged as a whole, with the line of its section line
unfoldable pub interstage_end_why : PlanDraftOf → Option (ℕ × PuaWhy)
interstage_end_why g =
    if is_interstage g.section
    then with_line g.current.line (interstage_reasons g.groups g.stages g.interstages (interstage_of g.current))
    else None

-- the draft after the end of its section: that of an interstage adds it
unfoldable pub after_section_end : PlanDraftOf → PlanDraftOf
after_section_end g =
    if is_interstage g.section
    then record g { interstages = interstages_with g.interstages (interstage_of g.current); current = open_at 0 0 }
    else g

-- why the section line that begins section s is refused
unfoldable pub section_why : PlanDraftOf → Section → Text → Option PuaWhy
section_why g s line = first_reason (
    when (not (is_text line)) why.NotText
    ∷ when (not (may_follow g.section s)) why.Section
    ∷ when (is_interstage s && nat_le 256 (length g.interstages)) why.Limit
    ∷ [])

-- the draft after the section line that begins section s
unfoldable pub after_section_line : PlanDraftOf → Section → PlanDraftOf
after_section_line g s =
    if is_interstage s then record g { section = s; current = open_at g.lines (length g.groups) }
    else record g { section = s }

-- one more line is counted
abbrev pub at_next_line : PlanDraftOf → PlanDraftOf
at_next_line g = record g { lines = g.lines + 1 }

-- the reason to refuse a line, with the line that it names, by what the lines before have told, this line counted
abbrev pub kind_why : Kind → PlanDraftOf → Text → Option (ℕ × PuaWhy)
kind_why Passed g line = None
kind_why (Begins s) g line = option_or (interstage_end_why g) (with_line g.lines (section_why (after_section_end g) s line))
kind_why Row g line = with_line g.lines (row_why g line)

-- the draft after a line of this kind
abbrev pub after_kind : Kind → PlanDraftOf → Text → PlanDraftOf
after_kind Passed g line = g
after_kind (Begins s) g line = after_section_line (after_section_end g) s
after_kind Row g line = after_row g line

-- the section is the end, after which lines are passed over
abbrev pub is_over : Section → Bool
is_over section.End = true
is_over _ = false

-- the reason to refuse a line, with the line that it names; lines after `$END` are passed over
unfoldable pub line_why : PlanDraftOf → Text → Option (ℕ × PuaWhy)
line_why g line = if is_over g.section then None else kind_why (kind_of (words false line)) (at_next_line g) line

-- the draft after one line more
unfoldable pub after_line : PlanDraftOf → Text → PlanDraftOf
after_line g line = if is_over g.section then at_next_line g else after_kind (kind_of (words false line)) (at_next_line g) line

-- what lines have told
unfoldable pub draft_of : List Text → PlanDraftOf
draft_of lines = fold after_line empty_draft lines

-- the reason to refuse a line after these
abbrev pub judge : List Text → Text → Option (ℕ × PuaWhy)
judge before line = line_why (draft_of before) line

-- what a file lacks
unfoldable pub missing_part : PlanDraftOf → Option PuaWhy
missing_part g = first_reason (
    when ((length g.groups == 0) || (length g.stages == 0)) why.Section
    ∷ when (is_none g.start) why.NoStart
    ∷ [])

-- the reason to refuse a file that ends there; line 0 is the whole file
unfoldable pub end_why : PlanDraftOf → Option (ℕ × PuaWhy)
end_why g = option_or (interstage_end_why g) (with_line 0 (missing_part (after_section_end g)))
