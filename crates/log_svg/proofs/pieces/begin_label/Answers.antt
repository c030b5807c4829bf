use Rattle.log_svg.specs.Svg.{label_begin}
use Rattle.sig_io.proofs.Drafts.{then}
use Rattle.log_svg.proofs.pieces.begin_label.Goals as goal

pub returns : goal.returns
unfolding label_begin
returns g c =
    then (then (then (then (then c.put.ensures
    c.put-2.ensures) c.put-3.ensures) c.put_attribute.ensures) c.put_attribute-2.ensures) c.put-4.ensures
