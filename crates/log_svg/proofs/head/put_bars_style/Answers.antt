use Rattle.log_svg.specs.Diagram.{bars_style}
use Rattle.sig_io.proofs.Drafts.{then}
use Rattle.log_svg.proofs.head.put_bars_style.Goals as goal

pub returns : goal.returns
unfolding bars_style
returns g c =
    then (then (then c.put.ensures c.put-2.ensures) c.put-3.ensures)
    c.put-4.ensures
