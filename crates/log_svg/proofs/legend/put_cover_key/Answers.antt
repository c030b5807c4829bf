use Rattle.log_svg.specs.Diagram.{cover_key}
use Rattle.sig_io.proofs.Drafts.{then}
use Rattle.log_svg.proofs.legend.put_cover_key.Goals as goal

pub returns : goal.returns
unfolding cover_key
returns g c = then c.put_box.ensures c.put_label.ensures
