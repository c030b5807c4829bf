use Rattle.sig_io.proofs.Drafts.{then}
use Rattle.sums_text.proofs.table.put_came_rows.Goals as goal

pub returns : goal.returns
returns g c =
    rw (← c.run_from.ensures) (then (then (then c.put_row.ensures (rw c.from.ensures at c.put_row-2.ensures)) (rw c.from-2.ensures at c.put_row-3.ensures)) (rw c.from-3.ensures at c.put_row-4.ensures))
