use Rattle.report_seen.specs.Letters.{block_rows}
use Rattle.sig_io.proofs.Drafts.{then}
use Rattle.report_seen.proofs.letters.put_block_rows.Goals as goal

pub returns : goal.returns
unfolding block_rows
returns g c =
    then (then c.put_groups.ensures (rw c.deref.ensures.value at c.put_faults.ensures))
    (rw (c.deref-2.ensures.value, c.deref-3.ensures.value) at c.put_detectors.ensures)
