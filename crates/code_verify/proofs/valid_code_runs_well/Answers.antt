use Rattle.code_verify.proofs.Bound.{runs_well}
use Rattle.code_verify.proofs.valid_code_runs_well.Goals as goal

pub returns : goal.returns
returns c = runs_well
