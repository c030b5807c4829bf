use Rattle.log_svg.specs.Diagram.{amber_pattern}
use Rattle.sig_io.proofs.Drafts.{then}
use Rattle.log_svg.proofs.head.put_amber_pattern.Goals as goal

pub returns : goal.returns
unfolding amber_pattern
returns g c = then c.put.ensures c.put-2.ensures
