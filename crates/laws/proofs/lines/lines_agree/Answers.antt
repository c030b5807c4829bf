use Rattle.laws.proofs.UnitsFollow.{lines_agree}
use Rattle.laws.proofs.lines.lines_agree.Goals as goal

pub returns : goal.returns
returns c = lines_agree
