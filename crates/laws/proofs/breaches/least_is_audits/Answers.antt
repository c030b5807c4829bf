use Rattle.laws.proofs.LeastRow.{least_is}
use Rattle.laws.proofs.breaches.least_is_audits.Goals as goal

pub returns : goal.returns
returns c = least_is
