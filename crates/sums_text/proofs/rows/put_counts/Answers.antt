use Rattle.sig_io.proofs.Drafts.{then}
use Rattle.sums_text.specs.Words.{counts_text}
use Rattle.sums_text.proofs.rows.put_counts.Goals as goal

pub returns : goal.returns
unfolding counts_text
returns g c =
    rw (← c.run_from.ensures)
    (then (then (then (then c.put_long.ensures c.put_pair.ensures) c.put_pair-2.ensures) c.put_pair-3.ensures) c.put.ensures)
