use Rattle.log_judge.proofs.Explaining as proof
use Rattle.log_judge.proofs.laws.free_is_free_from.Goals as goal

pub returns : goal.returns
returns c = proof.free_is_free_from
