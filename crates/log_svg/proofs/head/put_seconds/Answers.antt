use Rattle.log_svg.specs.Diagram.{seconds_title}
use Rattle.sig_io.proofs.Drafts.{then}
use Rattle.log_svg.proofs.head.put_seconds.Goals as goal

pub returns : goal.returns
unfolding seconds_title
returns g c =
    then (then (then (then c.put_given.ensures c.put.ensures) c.put_number.ensures) c.put-2.ensures) c.put_number-2.ensures
