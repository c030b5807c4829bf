use Rattle.std.proofs.Common.{take}
use Rattle.sig_io.specs.Draft.{Puts}
use Rattle.sums_text.specs.Words.{detectors_of}
use Rattle.sums_text.proofs.serves.put_numbers.Given as goal

abbrev pub invariant-loop-place : goal.invariant-loop-place
invariant-loop-place g l =
    Puts g.O.Sink.taken g.O.Sink.faults l.fn.draft l.draft l.fn.sink l.sink (detectors_of 1 (take l.place l.detectors))
