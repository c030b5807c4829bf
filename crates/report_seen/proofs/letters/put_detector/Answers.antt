use Rattle.std.proofs.Common.{arith}
use Rattle.std.proofs.lemmas.List.{take_all}
use Rattle.report_seen.specs.Letters.{detector_row}
use Rattle.report_seen.proofs.letters.put_detector.Goals as goal

pub returns : goal.returns
unfolding detector_row
returns g c =
    rw (c.loop-mark.invariant.row, take_all c.loop-mark.mark-index c.args.marks.now (omega (arith, c.loop-mark-test.false)), c.detector_name.ensures) at
    c.put_marks.ensures
