use Rattle.std.proofs.Common.{take}
use Rattle.sig_io.specs.Draft.{Puts}
use Rattle.log_svg.specs.Marks.{fronts_of}
use Rattle.log_svg.proofs.fronts.put_fronts.Given as goal

abbrev pub invariant-loop-mark : goal.invariant-loop-mark
invariant-loop-mark g l =
    Puts g.O.Sink.taken g.O.Sink.faults l.fn.draft l.draft l.fn.sink l.sink (fronts_of l.layout l.y l.detector.0 (take l.mark-index l.marks))
