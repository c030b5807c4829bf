use Rattle.log_svg.specs.Diagram.{fronts_key}
use Rattle.sig_io.proofs.Drafts.{then}
use Rattle.log_svg.proofs.legend.put_fronts_key.Goals as goal

pub returns : goal.returns
unfolding fronts_key
returns g c =
    then (then (then c.put_upright.ensures c.put_upright-2.ensures)
    c.put_upright-3.ensures) c.put_label.ensures
