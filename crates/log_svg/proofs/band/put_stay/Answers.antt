use Rattle.log_svg.specs.Band.{stay_text}
use Rattle.sig_io.proofs.Drafts.{then}
use Rattle.log_svg.proofs.band.put_stay.Goals as goal

pub returns : goal.returns
unfolding stay_text
returns g c =
    then (then (rw (c.place_class.ensures.class, c.begin_of-x.ensures.x, c.width_of-width.ensures.width) at c.begin_box.ensures)
    c.put_title.ensures) c.put_stay_words.ensures
