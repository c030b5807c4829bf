use Rattle.sig_io.proofs.Drafts.{then}
use Rattle.log_svg.proofs.axis.put_second.Goals as goal

pub returns : goal.returns
returns g c = then (then (then c.put_tick_above.ensures c.put_tick_below.ensures) c.put_label_above.ensures) c.put_label_below.ensures
