use Rattle.log_svg.specs.Diagram.{marks_style}
use Rattle.sig_io.proofs.Drafts.{then}
use Rattle.log_svg.proofs.head.put_marks_style.Goals as goal

pub returns : goal.returns
unfolding marks_style
returns g c =
    then c.put.ensures c.put-2.ensures
