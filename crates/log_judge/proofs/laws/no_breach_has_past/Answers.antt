use Rattle.log_judge.proofs.PastFound.{past_found}
use Rattle.log_judge.proofs.laws.no_breach_has_past.Goals as goal

pub returns : goal.returns
returns c = λ r h two_way apart size none. past_found r h two_way apart size none
