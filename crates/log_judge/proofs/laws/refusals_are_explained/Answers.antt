use Rattle.log_judge.proofs.Explaining as proof
use Rattle.log_judge.proofs.laws.refusals_are_explained.Goals as goal

pub returns : goal.returns
returns c = proof.refusals_are_explained
