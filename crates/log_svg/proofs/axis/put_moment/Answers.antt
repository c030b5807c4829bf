use Rattle.log_svg.specs.Svg.{label_text}
use Rattle.sig_io.proofs.Drafts.{then}
use Rattle.log_svg.proofs.axis.put_moment.Goals as goal

pub returns : goal.returns
unfolding label_text
returns g c = then (then c.begin_label.ensures c.put_below.ensures) c.put.ensures
