use Rattle.sig_io.proofs.Drafts.{then}
use Rattle.sums_text.proofs.serve_rows.put_some_per_green.Goals as goal

pub returns : goal.returns
returns g c =
    rw (← c.mean_served.ensures, ← c.one_less.ensures, ← c.one_less-2.ensures) (then (then c.put_row.ensures c.put_tenths_row.ensures) c.put_row-2.ensures)
