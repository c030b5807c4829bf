use Rattle.std.proofs.Common.{take}
use Rattle.sig_io.specs.Draft.{Puts}
use Rattle.log_svg.specs.Covers.{covers_text}
use Rattle.log_svg.proofs.covers.put_covers.Given as goal

abbrev pub invariant-loop-span : goal.invariant-loop-span
invariant-loop-span g l =
    Puts g.O.Sink.taken g.O.Sink.faults l.fn.draft l.draft l.fn.sink l.sink (covers_text l.layout l.y l.detector.0 (take l.span-index l.spans))
