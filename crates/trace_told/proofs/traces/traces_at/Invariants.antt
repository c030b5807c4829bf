use Rattle.std.proofs.Common.{◌≡◌, ◌++◌, drop, map}
use Rattle.trace_told.specs.Traces.{trace_in, traces_from}
use Rattle.trace_told.proofs.traces.traces_at.Given as goal

abbrev pub invariant-loop-k : goal.invariant-loop-k
invariant-loop-k l =
    map trace_in l.traces.items ++ traces_from l.checked.names l.columns l.tokens l.brackets l.k (drop l.k l.marks)
    ≡ traces_from l.checked.names l.columns l.tokens l.brackets 0 l.marks
