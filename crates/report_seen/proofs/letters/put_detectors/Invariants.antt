use Rattle.sig_io.specs.Draft.{Puts}
use Rattle.log_svg.specs.Covers.{spans_in}
use Rattle.report_seen.specs.Letters.{detector_rows}
use Rattle.report_seen.proofs.letters.put_detectors.Given as goal

abbrev pub invariant-loop-place : goal.invariant-loop-place
invariant-loop-place g l =
    Puts g.O.Sink.taken g.O.Sink.faults l.fn.draft l.draft l.fn.sink l.sink (detector_rows l.block l.marks (spans_in l.covers) l.place)
