use Rattle.log_svg.specs.Diagram.{dark_style}
use Rattle.sig_io.proofs.Drafts.{then}
use Rattle.log_svg.proofs.head.put_dark_style.Goals as goal

pub returns : goal.returns
unfolding dark_style
returns g c =
    then c.put.ensures c.put-2.ensures
