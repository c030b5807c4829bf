use Rattle.log_svg.specs.Diagram.{key_text}
use Rattle.sig_io.proofs.Drafts.{then}
use Rattle.log_svg.proofs.legend.put_key.Goals as goal

pub returns : goal.returns
unfolding key_text
returns g c = then c.put_box.ensures c.put_label.ensures
