use Rattle.sig_io.proofs.Drafts.{then}
use Rattle.log_svg.proofs.head.put_styles.Goals as goal

pub returns : goal.returns
returns g c =
    then (then (then c.put_bars_style.ensures c.put_words_style.ensures) c.put_marks_style.ensures) c.put_dark_style.ensures
