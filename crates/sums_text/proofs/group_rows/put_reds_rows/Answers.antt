use Rattle.sig_io.proofs.Drafts.{then}
use Rattle.sums_text.specs.Table.{reds_rows}
use Rattle.sums_text.proofs.group_rows.put_reds_rows.Goals as goal

pub returns : goal.returns
unfolding reds_rows
returns g c =
    then (then (rw c.from.ensures at c.put_row.ensures) (rw c.from-2.ensures at c.put_row-2.ensures)) c.put_lengths_rows.ensures
