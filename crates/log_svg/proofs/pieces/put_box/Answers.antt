use Rattle.log_svg.specs.Svg.{box_text}
use Rattle.sig_io.proofs.Drafts.{then}
use Rattle.log_svg.proofs.pieces.put_box.Goals as goal

pub returns : goal.returns
unfolding box_text
returns g c =
    then c.begin_box.ensures c.put.ensures
