use Rattle.log_svg.specs.Diagram.{size_text}
use Rattle.sig_io.proofs.Drafts.{then}
use Rattle.log_svg.proofs.head.put_size.Goals as goal

pub returns : goal.returns
unfolding size_text
returns g c =
    then (then (then (then c.put.ensures c.put_attribute.ensures)
    c.put_attribute-2.ensures) c.put_view.ensures) c.put-2.ensures
