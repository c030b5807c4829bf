use Rattle.log_svg.specs.Svg.{group_text}
use Rattle.sig_io.proofs.Drafts.{then}
use Rattle.log_svg.proofs.row.put_group.Goals as goal

pub returns : goal.returns
unfolding group_text
returns g c =
    then (then c.put_label.ensures c.put_row.ensures) (rw c.right_of.ensures.x at c.put_across.ensures)
