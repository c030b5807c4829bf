use Rattle.sig_io.proofs.Drafts.{then}
use Rattle.sums_text.specs.Words.{lines_text}
use Rattle.sums_text.proofs.rows.put_lines.Goals as goal

pub returns : goal.returns
unfolding lines_text
returns g c =
    then (then (then (then (then c.put_shown.ensures
    (rw c.deref.ensures.value at c.put_places.ensures))
    c.put_refused.ensures)
    (rw c.deref-2.ensures.value at c.put_faults.ensures))
    c.put_detectors.ensures)
    (rw c.deref-3.ensures.value at c.put_serves.ensures)
