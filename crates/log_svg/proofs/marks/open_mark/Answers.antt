use Rattle.log_svg.specs.Marks.{open_text}
use Rattle.sig_io.proofs.Drafts.{then}
use Rattle.log_svg.proofs.marks.open_mark.Goals as goal

pub returns : goal.returns
unfolding open_text
returns g c =
    then (then (then (then (rw c.middle_of.ensures.x at c.begin_label.ensures) (rw (c.rule_letter.ensures, c.rule_of.ensures) at c.put.ensures)) c.put-2.ensures)
    c.put_number.ensures) c.put-3.ensures
