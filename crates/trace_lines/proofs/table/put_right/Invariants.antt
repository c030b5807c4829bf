use Rattle.std.proofs.Common.{replicate}
use Rattle.sig_io.specs.Draft.{Puts}
use Rattle.trace_lines.proofs.table.put_right.Given as goal

abbrev pub invariant-loop-space : goal.invariant-loop-space
invariant-loop-space g l = Puts g.O.Sink.taken g.O.Sink.faults l.fn.draft l.draft l.fn.out l.out (replicate l.space 32)
