use Rattle.log_svg.specs.Marks.{detector_text}
use Rattle.sig_io.proofs.Drafts.{then}
use Rattle.log_svg.proofs.fronts.put_detector.Goals as goal

pub returns : goal.returns
unfolding detector_text
returns g c =
    then (then (then c.put_name.ensures (rw c.right_of.ensures.x at c.put_across.ensures)) c.put_covers.ensures) c.put_fronts.ensures
