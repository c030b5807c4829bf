use Rattle.std.proofs.Common.{◌≡◌, ◌+◌, ◌≤◌, ◌++◌, length}
use Rattle.std.specs.Str.Lines.{lines}
use Rattle.pua_lines.specs.Kinds.{place_value}
use Rattle.pua_lines.specs.Parts.{placed_from, placed_lines, placed_parts}
use Rattle.pua_lines.proofs.parts.PlanLines.of.Given as goal

abbrev pub invariant-loop-rest : goal.invariant-loop-rest
invariant-loop-rest l =
    (placed_parts l.fn.plan (placed_lines l.fn.text) ≡ l.lines.parts.items ++ placed_parts l.fn.plan (placed_from
    (place_value l.place) (lines l.rest)))
    × (l.place.number + length l.rest ≤ length l.fn.text) × (l.place.stages ≤ l.place.number) ×
    (l.place.interstages ≤ l.place.number)

abbrev pub decreases-loop-rest : goal.decreases-loop-rest
decreases-loop-rest l = length l.rest
