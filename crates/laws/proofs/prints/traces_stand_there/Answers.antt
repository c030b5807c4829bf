use Rattle.laws.proofs.TracesStand.{all_stand}
use Rattle.laws.proofs.prints.traces_stand_there.Goals as goal

pub returns : goal.returns
returns c = all_stand
