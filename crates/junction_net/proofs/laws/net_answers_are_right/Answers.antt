use Rattle.junction_net.proofs.Given.{gives_once, gives_always, ends_always, complete}
use Rattle.junction_net.proofs.laws.net_answers_are_right.Goals as goal

pub returns-clause-once : goal.returns-clause-once
returns-clause-once c = gives_once c.answers_are_right.ensures.once

pub returns-clause-end : goal.returns-clause-end
returns-clause-end c = ends_always

pub returns-clause-complete : goal.returns-clause-complete
returns-clause-complete c = complete

pub returns-clause-always : goal.returns-clause-always
returns-clause-always c = gives_always c.answers_are_right.ensures.programs
