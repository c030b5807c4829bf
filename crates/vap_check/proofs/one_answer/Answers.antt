use Rattle.vap_check.proofs.First.{has_answer, one_refusal, none_both}
use Rattle.vap_check.proofs.one_answer.Goals as goal

pub returns-clause-some : goal.returns-clause-some
returns-clause-some c = has_answer

pub returns-clause-refusal : goal.returns-clause-refusal
returns-clause-refusal c = one_refusal

pub returns-clause-apart : goal.returns-clause-apart
returns-clause-apart c = none_both
