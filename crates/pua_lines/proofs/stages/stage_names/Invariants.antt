use Rattle.std.proofs.Common.{◌≡◌, ◌+◌, ◌≤◌, ◌++◌, length, map}
use Rattle.std.specs.List.{filter_map}
use Rattle.std.specs.Str.Lines.{lines}
use Rattle.pua_lines.specs.Kinds.{place_value}
use Rattle.pua_lines.specs.Parts.{placed_from}
use Rattle.pua_lines.specs.StageWords.{stage_word, stage_words}
use Rattle.pua_lines.proofs.stages.stage_names.Given as goal

abbrev pub invariant-loop-rest : goal.invariant-loop-rest
invariant-loop-rest l =
    (stage_words l.fn.text ≡ map (λ v. v.items) l.names.items ++ filter_map stage_word (placed_from (place_value l.place) (lines l.rest)))
    × (l.place.number + length l.rest ≤ length l.fn.text) × (l.place.stages ≤ l.place.number) ×
    (l.place.interstages ≤ l.place.number)

abbrev pub decreases-loop-rest : goal.decreases-loop-rest
decreases-loop-rest l = length l.rest
