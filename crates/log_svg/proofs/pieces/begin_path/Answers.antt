use Rattle.log_svg.specs.Svg.{path_begin}
use Rattle.sig_io.proofs.Drafts.{then}
use Rattle.log_svg.proofs.pieces.begin_path.Goals as goal

pub returns : goal.returns
unfolding path_begin
returns g c =
    then (then (then (then c.put.ensures c.put-2.ensures)
    c.put-3.ensures) c.put_number.ensures) c.put-4.ensures
