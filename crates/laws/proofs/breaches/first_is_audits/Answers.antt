use Rattle.laws.proofs.HistoryFronts.{first_is}
use Rattle.laws.proofs.breaches.first_is_audits.Goals as goal

pub returns : goal.returns
returns c = first_is
