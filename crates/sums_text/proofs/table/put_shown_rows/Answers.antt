use Rattle.sig_io.proofs.Drafts.{then}
use Rattle.sums_text.specs.Table.{shown_rows}
use Rattle.sums_text.proofs.table.put_shown_rows.Goals as goal

pub returns : goal.returns
unfolding shown_rows
returns g c =
    rw (← c.counted_in-counted.ensures) (then (rw (c.lead_of.ensures, c.from.ensures) at c.put_row.ensures) c.put_shown_groups.ensures)
