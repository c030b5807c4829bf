use Rattle.log_svg.specs.Svg.{inside_text}
use Rattle.sig_io.proofs.Drafts.{then}
use Rattle.log_svg.proofs.row.put_inside.Goals as goal

pub returns : goal.returns
unfolding inside_text
returns g c =
    then (then (then (then (then (then c.put.ensures c.put_number.ensures) c.put-2.ensures) c.put_number-2.ensures) c.put-3.ensures)
    c.put_number-3.ensures) c.put-4.ensures
