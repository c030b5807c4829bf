use Rattle.std.proofs.Common.{refl}
use Rattle.log_protocol.proofs.Totalled.{no_totals}
use Rattle.log_protocol.proofs.totals.Totals.new.Goals as goal

pub returns : goal.returns
returns c = λ n few. no_totals _ n few refl refl refl refl c.in_ok-changes.ensures c.in_ok-together.ensures
