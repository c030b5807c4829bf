use Rattle.log_svg.specs.Marks.{detector_name}
use Rattle.sig_io.proofs.Drafts.{then}
use Rattle.log_svg.proofs.fronts.put_name.Goals as goal

pub returns : goal.returns
unfolding detector_name
returns g c =
    then (then (then c.begin_label.ensures c.put.ensures)
    (rw c.from.ensures at c.put_number.ensures)) c.put-2.ensures
