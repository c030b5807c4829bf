use Rattle.laws.proofs.LinesSeen.{lines_are_seen}
use Rattle.laws.proofs.lines.lines_are_seen.Goals as goal

pub returns : goal.returns
returns c = lines_are_seen
