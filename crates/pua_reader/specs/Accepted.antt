-- The texts that are accepted, their plans, and the refusal of the others.
use Rattle.std.specs.Prelude.{◌≡◌, ℕ, List, [], ◌∷◌, drop, Option, Some, None, if◌then◌else◌, nat_eq}
use Rattle.std.specs.Option.{option_or}
use Rattle.std.specs.List.{starts_with}
use Rattle.std.specs.Str.Lines.{lines}
use Rattle.sig_types.specs.FirstRefused.{first_refused}
use Rattle.sig_types.specs.declared.numbers.StageNo.{StageNo}
use Rattle.pua_model.specs.Plan.{PlanOf}
use Rattle.pua_model.specs.Parts.{plan_of}
use Rattle.pua_reader.specs.declared.refusal.PuaWhy.{PuaWhy}
use Rattle.pua_reader.specs.declared.refusal.PuaRefusal.{PuaRefusal}
use Rattle.pua_reader.specs.declared.refusal.PuaRefusal.TheVariants.{Memory, At}
use Rattle.pua_reader.specs.Words.{Text}
use Rattle.pua_reader.specs.PlanDraft.{PlanDraftOf, draft_of, judge, end_why, after_section_end}

-- a byte order mark at the beginning is passed over
abbrev pub without_mark : Text → Text
without_mark bytes = if starts_with nat_eq bytes (239 ∷ 187 ∷ 191 ∷ []) then drop 3 bytes else bytes

-- the lines of a text, without the byte order mark
unfoldable pub lines_in : Text → List Text
lines_in bytes = lines (without_mark bytes)

-- the first refusal of a text, with its line: that of its first refused line, or that of its end
unfoldable pub refusal_of : Text → Option (ℕ × PuaWhy)
refusal_of bytes = option_or (first_refused judge (lines_in bytes) []) (end_why (draft_of (lines_in bytes)))

-- the number of the starting stage; 0 where none is given yet
abbrev pub start_number : Option StageNo → ℕ
start_number None = 0
start_number (Some s) = s.0

-- the plan that a draft gives when its file ends
abbrev pub plan_in : PlanDraftOf → PlanOf
plan_in g = plan_of g.groups g.stages (start_number g.start) g.interstages

-- the plan of an accepted text
unfoldable pub plan_of_text : Text → PlanOf
plan_of_text bytes = plan_in (after_section_end (draft_of (lines_in bytes)))

-- want of memory can come at any text; else the refusal is that of the text
abbrev pub RefusedAs : PuaRefusal → Option (ℕ × PuaWhy) → Type 0
RefusedAs Memory first = Unit {0}
RefusedAs (At line why) first = first ≡ Some (line, why)
