use Rattle.log_svg.specs.Svg.{label_text}
use Rattle.sig_io.proofs.Drafts.{then}
use Rattle.log_svg.proofs.pieces.put_number_label.Goals as goal

pub returns : goal.returns
unfolding label_text
returns g c = then (then c.begin_label.ensures c.put_number.ensures) c.put.ensures
