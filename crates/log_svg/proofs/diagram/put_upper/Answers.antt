use Rattle.log_svg.specs.Diagram.{upper_text}
use Rattle.sig_io.proofs.Drafts.{then}
use Rattle.log_svg.proofs.diagram.put_upper.Goals as goal

pub returns : goal.returns
unfolding upper_text
returns g c =
    then (then (then (then (rw c.end_of.ensures.end at c.put_axis.ensures) c.put_label.ensures)
    (rw c.deref.ensures.value at c.put_band.ensures))
    (rw (c.deref-2.ensures.value, c.deref-3.ensures.value) at c.put_marks.ensures))
    (rw (c.deref-4.ensures.value, c.deref-5.ensures.value) at c.put_groups.ensures)
