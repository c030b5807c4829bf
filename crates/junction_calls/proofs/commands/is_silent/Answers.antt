use Rattle.junction_calls.proofs.Sums.{none_wished}
use Rattle.junction_calls.proofs.commands.is_silent.Goals as goal

pub returns : goal.returns
returns c = λ is. none_wished c.args.groups.now c.sum_of.result c.sum_of.ensures is
