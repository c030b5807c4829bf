use Rattle.laws.proofs.OneComparison.{comparisons_once}
use Rattle.laws.proofs.OneSummed.{sums_told_once}
use Rattle.laws.proofs.shown.sums_are_one.Goals as goal

pub returns-clause-sums : goal.returns-clause-sums
returns-clause-sums c = sums_told_once c.a_log_has_one_answer.ensures.found c.a_log_has_one_answer.ensures.header

pub returns-clause-comparisons : goal.returns-clause-comparisons
returns-clause-comparisons c = comparisons_once c.a_log_has_one_answer.ensures.found c.a_log_has_one_answer.ensures.header
