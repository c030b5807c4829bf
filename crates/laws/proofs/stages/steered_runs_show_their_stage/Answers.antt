use Rattle.laws.proofs.StagesShown.{stage_is_shown}
use Rattle.laws.proofs.stages.steered_runs_show_their_stage.Goals as goal

pub returns : goal.returns
returns c = stage_is_shown
