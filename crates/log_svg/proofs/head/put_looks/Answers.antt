use Rattle.sig_io.proofs.Drafts.{then}
use Rattle.log_svg.proofs.head.put_looks.Goals as goal

pub returns : goal.returns
returns g c =
    then (then (then c.put_styles.ensures c.put_half_pattern.ensures)
    c.put_amber_pattern.ensures) c.put_interstage_pattern.ensures
