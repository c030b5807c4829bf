use Rattle.laws.proofs.OneJudgement.{breaches_once, refusals_once}
use Rattle.laws.proofs.OneProtocol.{protocol_once}
use Rattle.laws.proofs.judgements.judgements_are_one.Goals as goal

pub returns-clause-breaches : goal.returns-clause-breaches
returns-clause-breaches c = breaches_once c.a_log_has_one_answer.ensures.pictures

pub returns-clause-protocol : goal.returns-clause-protocol
returns-clause-protocol c = protocol_once c.a_log_has_one_answer.ensures.pictures

pub returns-clause-refusals : goal.returns-clause-refusals
returns-clause-refusals c = refusals_once c.a_log_has_one_answer.ensures.records
