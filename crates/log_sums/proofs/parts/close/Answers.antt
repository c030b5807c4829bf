use Rattle.std.proofs.Common.{refl}
use Rattle.log_sums.proofs.Over.{ends}
use Rattle.log_sums.proofs.parts.close.Goals as goal

pub returns-clause-sums : goal.returns-clause-sums
returns-clause-sums c = λ groups from to records r most is. ends groups from to records r c.args.sums _ is most refl
