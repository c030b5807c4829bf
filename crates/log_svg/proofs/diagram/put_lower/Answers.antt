use Rattle.log_svg.specs.Diagram.{lower_text}
use Rattle.sig_io.proofs.Drafts.{then}
use Rattle.log_svg.proofs.diagram.put_lower.Goals as goal

pub returns : goal.returns
unfolding lower_text
returns g c =
    then (rw (c.faults_at.ensures.row, c.deref.ensures.value) at c.put_faults_row.ensures)
    (rw (c.detectors_row.ensures.row, c.deref-2.ensures.value, c.deref-3.ensures.value) at c.put_detectors.ensures)
