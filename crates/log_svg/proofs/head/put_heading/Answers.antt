use Rattle.log_svg.specs.Diagram.{heading_text}
use Rattle.sig_io.proofs.Drafts.{then}
use Rattle.log_svg.proofs.head.put_heading.Goals as goal

pub returns : goal.returns
unfolding heading_text
returns g c =
    then (then c.begin_label.ensures c.put_seconds.ensures) c.put.ensures
