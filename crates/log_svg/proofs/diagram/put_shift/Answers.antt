use Rattle.log_svg.specs.Diagram.{shift_text}
use Rattle.sig_io.proofs.Drafts.{then}
use Rattle.log_svg.proofs.diagram.put_shift.Goals as goal

pub returns : goal.returns
unfolding shift_text
returns g c = then (then c.put.ensures c.put_number.ensures) c.put-2.ensures
