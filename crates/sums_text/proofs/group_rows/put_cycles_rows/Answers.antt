use Rattle.sig_io.proofs.Drafts.{then}
use Rattle.sums_text.specs.Table.{cycles_rows}
use Rattle.sums_text.proofs.group_rows.put_cycles_rows.Goals as goal

pub returns : goal.returns
unfolding cycles_rows
returns g c =
    then (rw c.from.ensures at c.put_row.ensures) c.put_lengths_rows.ensures
