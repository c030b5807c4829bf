use Rattle.sig_io.proofs.Drafts.{then}
use Rattle.sums_text.proofs.cells.put_some_lengths.Goals as goal

pub returns : goal.returns
returns g c =
    rw (← c.mean_of.ensures) (then (then (rw c.from.ensures at c.put_row.ensures) c.put_tenths_row.ensures) (rw c.from-2.ensures at c.put_row-2.ensures))
