use Rattle.std.proofs.Common.{◌≡◌, map, take}
use Rattle.trace_lines.specs.Lines.{line_in, total_by}
use Rattle.trace_lines.specs.Table.{statements_of}
use Rattle.trace_lines.proofs.table.statements_of.Given as goal

abbrev pub invariant-loop-line : goal.invariant-loop-line
invariant-loop-line l = l.statements ≡ total_by statements_of (map line_in (take l.line-index l.lines))
