use Rattle.log_judge.proofs.Earliest.{earliest_after_amber, earliest_after_red_amber}
use Rattle.log_judge.proofs.laws.earliest_in_sequence.Goals as goal

pub returns-clause-of_ends : goal.returns-clause-of_ends
returns-clause-of_ends c = earliest_after_red_amber

pub returns-clause-of_starts : goal.returns-clause-of_starts
returns-clause-of_starts c = earliest_after_amber
