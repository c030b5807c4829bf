use Rattle.std.proofs.Common.{◌∙◌, refl, ap, length, sym, subst, arith}
use Rattle.std.proofs.lemmas.List.{get_or-replicate}
use Rattle.actuation.specs.Detector.{at, nothing, IsSized}
use Rattle.actuation.specs.Stands.{StandsFor}
use Rattle.actuation.proofs.Sums.{nothing_taken}
use Rattle.actuation.proofs.actuation.Actuation.new.Goals as goal

pub invariant_of-result : goal.invariant_of-result
invariant_of-result c = record {
  at_most = omega arith;
  size = ap length c.unseen_detectors.ensures;
  sized = λ p lt. subst (λ x. IsSized 0 x) (sym (ap (λ l. at l p) c.unseen_detectors.ensures ∙ get_or-replicate 64 p nothing nothing lt))
      (record { within = omega arith; at_most = omega arith; since = omega arith; begun = λ on. absurd (cc) });
}

pub returns : goal.returns
unfolding StandsFor
returns c = nothing_taken _ refl (λ p lt. ap (λ l. at l p) c.unseen_detectors.ensures ∙ get_or-replicate 64 p nothing nothing lt)
