use Rattle.laws.proofs.UnitsFollow.{source_tells}
use Rattle.laws.proofs.lines.source_tells_lines.Goals as goal

pub returns : goal.returns
returns c = source_tells
