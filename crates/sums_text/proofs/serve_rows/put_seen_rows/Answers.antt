use Rattle.sig_io.proofs.Drafts.{then}
use Rattle.sums_text.specs.Table.{seen_rows}
use Rattle.sums_text.proofs.serve_rows.put_seen_rows.Goals as goal

pub returns : goal.returns
unfolding seen_rows
returns g c =
    then (then (then (then (then c.put_row.ensures c.put_row-2.ensures) (rw c.from.ensures at c.put_row-3.ensures)) c.put_per_green_rows.ensures)
    (rw c.from-2.ensures at c.put_row-4.ensures))
    c.put_lengths_rows.ensures
