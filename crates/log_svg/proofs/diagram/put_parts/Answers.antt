use Rattle.sig_io.proofs.Drafts.{nothing, then}
use Rattle.log_svg.specs.Diagram.{parts_text}
use Rattle.log_svg.proofs.Shown.{parts_more}
use Rattle.log_svg.proofs.diagram.put_parts.Goals as goal

pub loop-part-init : goal.loop-part-init
unfolding parts_text
loop-part-init g c = nothing

pub loop-part-preserved : goal.loop-part-preserved
loop-part-preserved g c =
    rw parts_more (then c.loop-part.invariant (rw (c.panel_at-layout.ensures.panel, c.top_of-y.ensures.top) at c.put_panel.ensures))
