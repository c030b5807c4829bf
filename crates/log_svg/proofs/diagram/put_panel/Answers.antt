use Rattle.log_svg.specs.Diagram.{panel_text}
use Rattle.sig_io.proofs.Drafts.{then}
use Rattle.log_svg.proofs.diagram.put_panel.Goals as goal

pub returns : goal.returns
unfolding panel_text
returns g c = then (then (then c.put_shift.ensures c.put_upper.ensures) c.put_lower.ensures) c.put.ensures
