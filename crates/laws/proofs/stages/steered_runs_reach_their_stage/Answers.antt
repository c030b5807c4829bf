use Rattle.laws.proofs.StagesShown.{stage_is_reached}
use Rattle.laws.proofs.stages.steered_runs_reach_their_stage.Goals as goal

pub returns : goal.returns
returns c = stage_is_reached
