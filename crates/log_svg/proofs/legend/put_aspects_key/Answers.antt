use Rattle.log_svg.specs.Diagram.{aspects_key}
use Rattle.sig_io.proofs.Drafts.{then}
use Rattle.log_svg.proofs.legend.put_aspects_key.Goals as goal

pub returns : goal.returns
unfolding aspects_key
returns g c =
    then (then (then (then c.put_red_key.ensures c.put_key.ensures)
    c.put_key-2.ensures) c.put_label.ensures) c.put_key-3.ensures
