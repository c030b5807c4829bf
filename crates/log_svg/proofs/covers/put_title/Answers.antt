use Rattle.log_svg.specs.Covers.{cover_title}
use Rattle.sig_io.proofs.Drafts.{then}
use Rattle.log_svg.proofs.covers.put_title.Goals as goal

pub returns : goal.returns
unfolding cover_title
returns g c =
    then (then (then (then c.put.ensures (rw c.from.ensures at c.put_number.ensures)) c.put-2.ensures) c.put_times.ensures) c.put-3.ensures
