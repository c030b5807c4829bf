use Rattle.pua_reader.proofs.PlansKept.{plans_are_whole}
use Rattle.pua_reader.proofs.laws.plans_are_whole.Goals as goal

pub returns : goal.returns
returns c = plans_are_whole
