use Rattle.sig_io.proofs.Drafts.{then}
use Rattle.sums_text.specs.Table.{share_rows}
use Rattle.sums_text.proofs.group_rows.put_share_rows.Goals as goal

pub returns : goal.returns
unfolding share_rows
returns g c =
    then (then (rw c.from.ensures at c.put_row.ensures) (rw c.share_of.ensures at c.put_tenths_row.ensures)) c.put_some_row.ensures
