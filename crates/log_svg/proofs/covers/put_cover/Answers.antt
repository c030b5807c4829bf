use Rattle.log_svg.specs.Covers.{cover_text}
use Rattle.sig_io.proofs.Drafts.{then}
use Rattle.log_svg.proofs.covers.put_cover.Goals as goal

pub returns : goal.returns
unfolding cover_text
returns g c =
    then (rw (c.begin_of-x.ensures.x, c.width_of-width.ensures.width) at c.begin_box.ensures) c.put_title.ensures
