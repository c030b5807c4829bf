use Rattle.log_svg.specs.Svg.{cross_text}
use Rattle.sig_io.proofs.Drafts.{then}
use Rattle.log_svg.proofs.pieces.begin_cross.Goals as goal

pub returns : goal.returns
unfolding cross_text
returns g c = then (then c.begin_path.ensures c.put_number.ensures) c.put.ensures
