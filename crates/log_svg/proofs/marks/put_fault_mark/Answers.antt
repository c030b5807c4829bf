use Rattle.log_svg.specs.Marks.{fault_mark_text}
use Rattle.sig_io.proofs.Drafts.{then}
use Rattle.log_svg.proofs.marks.put_fault_mark.Goals as goal

pub returns : goal.returns
unfolding fault_mark_text
returns g c =
    then (then (then (then (then (rw c.middle_of.ensures.x at c.begin_cross.ensures)
    c.put.ensures) c.put_number.ensures) c.put-2.ensures) c.put_fault.ensures) c.put-3.ensures
