use Rattle.std.proofs.Common.{◌≡◌, map, take}
use Rattle.trace_lines.specs.Rows.{row_in, row_of}
use Rattle.trace_lines.proofs.rows.rows_in.Given as goal

abbrev pub invariant-loop-line : goal.invariant-loop-line
invariant-loop-line l = map row_in l.rows.items ≡ map (row_of l.statements l.tests) (take l.line-index l.lines)
