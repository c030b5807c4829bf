use Rattle.std.proofs.Common.{◌≡◌, ◌++◌, drop}
use Rattle.trace_lines.specs.Rows.{lines_behind, lines_of}
use Rattle.trace_lines.proofs.rows.lines_of.Given as goal

abbrev pub invariant-loop-mark : goal.invariant-loop-mark
invariant-loop-mark l = l.lines.items ++ lines_behind l.last (drop l.mark-index l.marks) ≡ lines_of l.marks
