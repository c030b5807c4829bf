use Rattle.std.proofs.Common.{◌≡◌, ◌++◌, drop}
use Rattle.trace_lines.specs.Rows.{places_in}
use Rattle.trace_lines.proofs.rows.places_in.Given as goal

abbrev pub invariant-loop-mark : goal.invariant-loop-mark
invariant-loop-mark l = l.places.items ++ places_in l.line (drop l.mark-index l.marks) ≡ places_in l.line l.marks
