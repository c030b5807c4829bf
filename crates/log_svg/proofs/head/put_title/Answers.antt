use Rattle.log_svg.specs.Diagram.{title_text}
use Rattle.sig_io.proofs.Drafts.{then}
use Rattle.log_svg.proofs.head.put_title.Goals as goal

pub returns : goal.returns
unfolding title_text
returns g c =
    then (then c.put.ensures c.put_seconds.ensures) c.put-2.ensures
