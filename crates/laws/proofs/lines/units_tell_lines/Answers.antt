use Rattle.laws.proofs.UnitsSpent.{units_tell}
use Rattle.laws.proofs.lines.units_tell_lines.Goals as goal

pub returns : goal.returns
returns c = units_tell
