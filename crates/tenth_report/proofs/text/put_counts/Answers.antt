use Rattle.sig_io.proofs.Drafts.{then}
use Rattle.tenth_report.proofs.text.put_counts.Goals as goal

pub returns : goal.returns
returns g c =
    then (then (then (then (then c.put.ensures (rw c.from.ensures at c.put_ticks.ensures)) c.put_unknown.ensures) c.put-2.ensures)
    c.put_long_number.ensures) c.put-3.ensures
