use Rattle.report_seen.specs.Letters.{detector_rows}
use Rattle.sig_io.proofs.Drafts.{nothing, then}
use Rattle.report_seen.proofs.Blocks.{detectors_more}
use Rattle.report_seen.proofs.letters.put_detectors.Goals as goal

pub loop-place-init : goal.loop-place-init
unfolding detector_rows
loop-place-init g c = nothing

pub loop-place-preserved : goal.loop-place-preserved
loop-place-preserved g c =
    let i = c.loop-place.invariant in
    rw detectors_more (then i (rw c.spans_of-spans.ensures at c.put_detector.ensures))
