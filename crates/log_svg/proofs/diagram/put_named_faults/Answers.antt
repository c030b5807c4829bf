use Rattle.log_svg.specs.Diagram.{named_faults}
use Rattle.sig_io.proofs.Drafts.{then}
use Rattle.log_svg.proofs.diagram.put_named_faults.Goals as goal

pub returns : goal.returns
unfolding named_faults
returns g c = then c.put_label.ensures c.put_faults.ensures
