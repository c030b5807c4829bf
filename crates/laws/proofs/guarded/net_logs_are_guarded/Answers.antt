use Rattle.laws.proofs.GuardedOutputs.{net_logs_are_guarded}
use Rattle.laws.proofs.guarded.net_logs_are_guarded.Goals as goal

pub returns : goal.returns
returns c = net_logs_are_guarded c.answers_are_right.ensures.guarded
