use Rattle.log_svg.specs.Svg.{span_text}
use Rattle.sig_io.proofs.Drafts.{then}
use Rattle.log_svg.proofs.row.put_span.Goals as goal

pub returns : goal.returns
unfolding span_text
returns g c =
    then (then (rw (c.class_of.ensures.class, c.begin_of-x.ensures.x, c.width_of-width.ensures.width, c.inset_of-inset.ensures.inset, c.thick_of-thick.ensures) at
    c.begin_box.ensures) c.put_title.ensures) c.put_told.ensures
