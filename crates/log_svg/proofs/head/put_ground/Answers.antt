use Rattle.log_svg.specs.Diagram.{ground_text}
use Rattle.sig_io.proofs.Drafts.{then}
use Rattle.log_svg.proofs.head.put_ground.Goals as goal

pub returns : goal.returns
unfolding ground_text
returns g c =
    then (then (then c.put.ensures c.put_attribute.ensures) c.put_attribute-2.ensures)
    c.put-2.ensures
