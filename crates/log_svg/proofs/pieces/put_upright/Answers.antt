use Rattle.log_svg.specs.Svg.{upright_text}
use Rattle.sig_io.proofs.Drafts.{then}
use Rattle.log_svg.proofs.pieces.put_upright.Goals as goal

pub returns : goal.returns
unfolding upright_text
returns g c =
    then (then (then (then c.begin_path.ensures c.put_number.ensures)
    c.put.ensures) c.put_number-2.ensures) c.put-2.ensures
