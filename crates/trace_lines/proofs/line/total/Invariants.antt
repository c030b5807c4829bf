use Rattle.std.proofs.Common.{◌≡◌, take}
use Rattle.trace_lines.specs.Lines.{total_by}
use Rattle.trace_lines.proofs.line.total.Given as goal

abbrev pub invariant-loop-count : goal.invariant-loop-count
invariant-loop-count l = l.total ≡ total_by (λ n. n) (take l.count-index l.counts)
