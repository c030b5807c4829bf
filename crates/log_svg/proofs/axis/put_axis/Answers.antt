use Rattle.sig_io.proofs.Drafts.{nothing, then}
use Rattle.log_svg.specs.Axis.{axis_text}
use Rattle.log_svg.proofs.Shown.{axis_more}
use Rattle.log_svg.proofs.axis.put_axis.Goals as goal

pub loop-place-init : goal.loop-place-init
unfolding axis_text
loop-place-init g c = nothing

pub loop-place-preserved : goal.loop-place-preserved
loop-place-preserved g c = rw axis_more (then c.loop-place.invariant c.put_second.ensures)
