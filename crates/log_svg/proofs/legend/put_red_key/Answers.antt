use Rattle.sig_io.proofs.Drafts.{then}
use Rattle.log_svg.proofs.legend.put_red_key.Goals as goal

pub returns : goal.returns
returns g c = then c.put_box.ensures c.put_label.ensures
