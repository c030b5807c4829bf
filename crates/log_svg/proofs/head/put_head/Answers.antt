use Rattle.log_svg.specs.Diagram.{head_text}
use Rattle.sig_io.proofs.Drafts.{then}
use Rattle.log_svg.proofs.head.put_head.Goals as goal

pub returns : goal.returns
unfolding head_text
returns g c =
    let height = c.height_of-height.ensures in
    then (then (then (then (rw height at c.put_size.ensures) c.put_title.ensures) c.put_looks.ensures)
    (rw height at c.put_ground.ensures)) c.put_heading.ensures
