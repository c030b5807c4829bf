use Rattle.std.proofs.Common.{sym, subst}
use Rattle.std.proofs.lemmas.List.{get_or-replicate, length-replicate}
use Rattle.log_sums.specs.Detectors.{AreDetectorSums}
use Rattle.log_sums.proofs.sums.no_detectors.Goals as goal

pub returns-clause-size : goal.returns-clause-size
returns-clause-size c = length-replicate 64 c.none.result

pub returns-clause-each : goal.returns-clause-each
returns-clause-each c = λ p d f r from inside. subst (AreDetectorSums f r from 0) (sym (get_or-replicate 64 p c.none.result d inside)) (c.none.ensures f r from)
