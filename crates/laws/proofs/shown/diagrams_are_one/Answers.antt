use Rattle.laws.proofs.OneShown.{diagrams_once, lost_once}
use Rattle.laws.proofs.OneSiteDiagram.{site_diagrams_once}
use Rattle.laws.proofs.shown.diagrams_are_one.Goals as goal

pub returns-clause-diagrams : goal.returns-clause-diagrams
returns-clause-diagrams c = diagrams_once c.a_log_has_one_answer.ensures.found c.a_log_has_one_answer.ensures.header

pub returns-clause-lost : goal.returns-clause-lost
returns-clause-lost c = lost_once c.a_log_has_one_answer.ensures.found c.a_log_has_one_answer.ensures.header

pub returns-clause-site : goal.returns-clause-site
returns-clause-site c = site_diagrams_once c.a_log_has_one_answer.ensures.found c.a_log_has_one_answer.ensures.header
