use Rattle.laws.proofs.OneAnswer.{compiled_once, junction_once}
use Rattle.laws.proofs.answers.junction_has_one_answer.Goals as goal

pub returns-clause-one : goal.returns-clause-one
returns-clause-one c = junction_once c.answers_are_right.ensures.once c.answers_are_right.ensures.audits

pub returns-clause-compiled : goal.returns-clause-compiled
returns-clause-compiled c = compiled_once c.answers_are_right.ensures.once
