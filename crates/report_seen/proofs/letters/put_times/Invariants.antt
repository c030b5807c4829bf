use Rattle.sig_io.specs.Draft.{Puts}
use Rattle.std.proofs.Common.{replicate}
use Rattle.report_seen.proofs.letters.put_times.Given as goal

abbrev pub invariant-loop-time : goal.invariant-loop-time
invariant-loop-time g l =
    Puts g.O.Sink.taken g.O.Sink.faults l.fn.draft l.draft l.fn.sink l.sink (replicate l._time l.letter)
