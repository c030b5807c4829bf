use Rattle.log_svg.specs.Diagram.{fault_key}
use Rattle.sig_io.proofs.Drafts.{then}
use Rattle.log_svg.proofs.legend.put_fault_key.Goals as goal

pub returns : goal.returns
unfolding fault_key
returns g c =
    then (then c.begin_cross.ensures c.put.ensures) c.put_label.ensures
