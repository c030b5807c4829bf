use Rattle.sig_io.proofs.Drafts.{then}
use Rattle.report_seen.specs.LostText.{lost_row}
use Rattle.report_seen.proofs.lost_text.put_row.Goals as goal

pub returns : goal.returns
unfolding lost_row
returns g c =
    then (then (then (then (then (then (then (then (then (then (then c.put_group_name.ensures c.put.ensures) c.put_number.ensures) c.put-2.ensures)
    c.put_number-2.ensures) c.put-3.ensures) (rw c.saturating_sub.ensures at c.put_number-3.ensures)) c.put-4.ensures)
    (rw c.rule_name.ensures.text at c.put-5.ensures)) c.put-6.ensures) c.put_other.ensures) c.put-7.ensures
