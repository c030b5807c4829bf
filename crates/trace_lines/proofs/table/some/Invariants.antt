use Rattle.std.proofs.Common.{◌≡◌, ◌≤◌, take}
use Rattle.std.specs.Prelude.{count_by}
use Rattle.trace_lines.specs.Table.{some}
use Rattle.trace_lines.proofs.table.some.Given as goal

abbrev pub invariant-loop-count : goal.invariant-loop-count
invariant-loop-count l = (l.some ≡ count_by some (take l.count-index l.counts)) × (l.some ≤ l.count-index)
