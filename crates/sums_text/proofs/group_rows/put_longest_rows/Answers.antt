use Rattle.sig_io.proofs.Drafts.{then}
use Rattle.sums_text.specs.Table.{longest_rows}
use Rattle.sums_text.proofs.group_rows.put_longest_rows.Goals as goal

pub returns : goal.returns
unfolding longest_rows
returns g c =
    then (rw (c.from.ensures, c.longest_of.ensures) at c.put_row.ensures) (rw c.longest_begin.ensures at c.put_some_row.ensures)
