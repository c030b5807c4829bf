use Rattle.std.proofs.Common.{sym, subst}
use Rattle.std.proofs.lemmas.List.{get_or-replicate}
use Rattle.log_sums.specs.Groups.{AreGroupSums}
use Rattle.log_sums.proofs.sums.no_groups.Goals as goal

pub returns : goal.returns
returns c = λ g d a from inside. subst (AreGroupSums a from 0) (sym (get_or-replicate 64 g c.none.result d inside)) (c.none.ensures a from)
