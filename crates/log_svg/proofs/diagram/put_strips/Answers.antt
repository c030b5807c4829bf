use Rattle.sig_io.proofs.Drafts.{nothing, then}
use Rattle.log_svg.specs.Diagram.{strips_text}
use Rattle.log_svg.proofs.Shown.{strips_more}
use Rattle.log_svg.proofs.diagram.put_strips.Goals as goal

pub loop-number-init : goal.loop-number-init
unfolding strips_text
loop-number-init g c = nothing

pub loop-number-preserved : goal.loop-number-preserved
loop-number-preserved g c = rw strips_more (then c.loop-number.invariant c.put_parts.ensures)
