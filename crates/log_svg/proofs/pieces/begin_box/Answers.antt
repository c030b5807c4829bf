use Rattle.log_svg.specs.Svg.{box_begin}
use Rattle.sig_io.proofs.Drafts.{then}
use Rattle.log_svg.proofs.pieces.begin_box.Goals as goal

pub returns : goal.returns
unfolding box_begin
returns g c =
    then (then (then (then (then (then c.put.ensures c.put-2.ensures) c.put-3.ensures) c.put_attribute.ensures) c.put_attribute-2.ensures)
    c.put_attribute-3.ensures) c.put_attribute-4.ensures
