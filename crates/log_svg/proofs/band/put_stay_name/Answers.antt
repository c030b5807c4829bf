use Rattle.log_svg.specs.Band.{stay_name}
use Rattle.sig_io.proofs.Drafts.{then}
use Rattle.log_svg.proofs.band.put_stay_name.Goals as goal

pub returns : goal.returns
unfolding stay_name
returns g c =
    then (then (rw (c.begin_of.ensures.x, c.width_of.ensures.width) at c.begin_label.ensures) c.put_named.ensures)
    c.put.ensures
