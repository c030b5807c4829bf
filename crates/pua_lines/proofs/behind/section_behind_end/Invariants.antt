use Rattle.std.proofs.Common.{◌≡◌, ◌+◌, ◌≤◌, length}
use Rattle.std.specs.List.{find}
use Rattle.std.specs.Str.Lines.{lines}
use Rattle.pua_lines.specs.BehindEnd.{is_behind_end}
use Rattle.pua_lines.specs.Kinds.{place_value}
use Rattle.pua_lines.specs.Parts.{placed_from, placed_lines}
use Rattle.pua_lines.proofs.behind.section_behind_end.Given as goal

abbrev pub invariant-loop-rest : goal.invariant-loop-rest
invariant-loop-rest l =
    (find is_behind_end (placed_lines l.fn.text) ≡ find is_behind_end (placed_from (place_value l.place) (lines l.rest)))
    × (l.place.number + length l.rest ≤ length l.fn.text) × (l.place.stages ≤ l.place.number) ×
    (l.place.interstages ≤ l.place.number)

abbrev pub decreases-loop-rest : goal.decreases-loop-rest
decreases-loop-rest l = length l.rest
