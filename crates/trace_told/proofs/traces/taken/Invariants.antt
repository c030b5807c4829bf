use Rattle.std.proofs.Common.{◌≡◌, ◌++◌, drop}
use Rattle.trace_told.specs.Traces.{taken_from}
use Rattle.trace_told.proofs.traces.taken.Given as goal

abbrev pub invariant-loop-k : goal.invariant-loop-k
invariant-loop-k l = l.taken.items ++ taken_from l.k l.flags (drop l.k l.marks) ≡ taken_from 0 l.flags l.marks
