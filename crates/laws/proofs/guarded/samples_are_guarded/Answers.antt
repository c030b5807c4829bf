use Rattle.laws.proofs.GuardedOutputs.{samples_are_guarded}
use Rattle.laws.proofs.guarded.samples_are_guarded.Goals as goal

pub returns : goal.returns
returns c = samples_are_guarded c.answers_are_right.ensures.guarded
