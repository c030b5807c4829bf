use Rattle.log_svg.specs.Diagram.{least_style}
use Rattle.log_svg.proofs.legend.put_least_style.Goals as goal

pub returns : goal.returns
unfolding least_style
returns g c = c.put.ensures
