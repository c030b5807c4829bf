use Rattle.log_svg.specs.Marks.{told_line}
use Rattle.sig_io.proofs.Drafts.{then}
use Rattle.log_svg.proofs.marks.put_line.Goals as goal

pub returns : goal.returns
unfolding told_line
returns g c =
    then (then c.next_mark.ensures c.put.ensures) c.put_refused.ensures
