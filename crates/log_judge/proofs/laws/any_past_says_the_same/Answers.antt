use Rattle.log_judge.proofs.Explaining as proof
use Rattle.log_judge.proofs.laws.any_past_says_the_same.Goals as goal

pub returns : goal.returns
returns c = proof.any_past_says_the_same
