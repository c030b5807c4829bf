use Rattle.std.proofs.Common.{◌≡◌, drop, map}
use Rattle.std.specs.List.{find}
use Rattle.trace_lines.specs.Lines.{line_in}
use Rattle.trace_lines.specs.Table.{is_numbered}
use Rattle.trace_lines.proofs.table.find_line.Given as goal

abbrev pub invariant-loop-line : goal.invariant-loop-line
invariant-loop-line l =
    find (is_numbered l.number) (map line_in (drop l.line-index l.lines)) ≡ find (is_numbered l.number) (map line_in l.lines)
