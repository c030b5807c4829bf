use Rattle.sig_io.proofs.Drafts.{then}
use Rattle.report_seen.specs.LostText.{lost_line}
use Rattle.report_seen.proofs.lost_text.put_line.Goals as goal

pub returns : goal.returns
unfolding lost_line
returns g c =
    then (then (then (then (then (then c.put.ensures c.put_group_name.ensures) c.put-2.ensures) c.put_number.ensures) c.put-3.ensures)
    c.put_number-2.ensures) c.put-4.ensures
