-- The names of the stages of a PUA file.
use Rattle.std.specs.Prelude.{◌≡◌, false, List, Option, Some, None, if◌then◌else◌}
use Rattle.std.specs.List.{filter_map}
use Rattle.pua_reader.specs.Words.{Text, words}
use Rattle.pua_reader.specs.Interstages.{word}
use Rattle.pua_reader.specs.Accepted.{refusal_of, plan_of_text}
use Rattle.pua_lines.specs.Parts.{PlaceOf, gives_stage, placed_lines}

-- the first word of a line that stands there, where it gives a stage
abbrev pub stage_word : PlaceOf × Text → Option Text
stage_word p = if gives_stage p.0.section p.1 then Some (word (words false p.1) 0) else None

-- the first words of the lines that give a stage, in the order of the text
unfoldable pub stage_words : Text → List Text
stage_words text = filter_map stage_word (placed_lines text)

-- in an accepted file these are the names of the stages of the plan
abbrev pub StageWordsAreNames : Type 0
StageWordsAreNames = (text : Text) → refusal_of text ≡ None → stage_words text ≡ (plan_of_text text).stage_names
