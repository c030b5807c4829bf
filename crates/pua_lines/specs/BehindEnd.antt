-- Sections that stand behind the section END of a PUA file, where nothing is read.
use Rattle.std.specs.Prelude.{Bool, false, not, ◌&&◌, find, Option}
use Rattle.std.specs.Option.{option_map}
use Rattle.pua_reader.specs.declared.section.Kind.{Kind}
use Rattle.pua_reader.specs.declared.section.Kind.TheVariants.{Passed, Begins, Row}
use Rattle.pua_reader.specs.Words.{Text, words, kind_of}
use Rattle.pua_reader.specs.PlanDraft.{is_over}
use Rattle.pua_lines.specs.declared.spot.Spot.{Spot}
use Rattle.pua_lines.specs.Parts.{PlaceOf, placed_lines}
use Rattle.pua_lines.specs.Sections.{first_spot}

-- a line of this kind has a section word other than END
abbrev pub begins_other : Kind → Bool
begins_other Passed = false
begins_other (Begins s) = not (is_over s)
begins_other Row = false

-- a line that stands there stands behind the beginning of END, and has another section word
abbrev pub is_behind_end : PlaceOf × Text → Bool
is_behind_end p = is_over p.0.section && begins_other (kind_of (words false p.1))

-- the first word of the first of these lines
unfoldable pub behind_end : Text → Option Spot
behind_end text = option_map (λ p. first_spot p.0.number p.1) (find is_behind_end (placed_lines text))
