use Rattle.log_svg.specs.Diagram.{interstage_pattern}
use Rattle.sig_io.proofs.Drafts.{then}
use Rattle.log_svg.proofs.head.put_interstage_pattern.Goals as goal

pub returns : goal.returns
unfolding interstage_pattern
returns g c = then c.put.ensures c.put-2.ensures
