use Rattle.laws.proofs.NeighbouringParts.{neighbours_add_up}
use Rattle.laws.proofs.figures.neighbours_add_up.Goals as goal

pub returns : goal.returns
returns c = neighbours_add_up
