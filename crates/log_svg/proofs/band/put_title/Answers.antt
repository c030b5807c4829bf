use Rattle.log_svg.specs.Band.{stay_title}
use Rattle.sig_io.proofs.Drafts.{then}
use Rattle.log_svg.proofs.band.put_title.Goals as goal

pub returns : goal.returns
unfolding stay_title
returns g c =
    then (then (then c.put.ensures c.put_named.ensures) c.put_times.ensures) c.put-2.ensures
