use Rattle.laws.proofs.OneRecord.{records_once}
use Rattle.laws.proofs.judgements.record_judgements_are_one.Goals as goal

pub returns : goal.returns
returns c = records_once
