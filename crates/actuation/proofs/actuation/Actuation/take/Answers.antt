use Rattle.std.proofs.Common.{◌+◌, refl, sym, subst, arith}
use Rattle.actuation.specs.Detector.{at, IsSized, count_at}
use Rattle.actuation.specs.Stands.{StandsFor}
use Rattle.actuation.proofs.GoesOn.{sized_next}
use Rattle.actuation.proofs.Sums.{held, has_taken}
use Rattle.actuation.proofs.actuation.Actuation.take.Goals as goal

pub advance_all-requires-clause-holds : goal.advance_all-requires-clause-holds
unfolding StandsFor
advance_all-requires-clause-holds c = held c.args.self.now c.requires.0 c.requires.1 c.args.frame.now c.requires.2 c.requires.3

pub invariant_of-self : goal.invariant_of-self
unfolding StandsFor
invariant_of-self c = record {
  at_most = omega (arith, c.requires.2.seconds, c.requires.3.few);
  size = c.advance_all.ensures.size;
  sized = λ p lt.
      let h = held c.args.self.now c.requires.0 c.requires.1 c.args.frame.now c.requires.2 c.requires.3 p lt in
      subst (λ x. IsSized (c.args.self.now.seconds + 1) x) (sym (c.advance_all.ensures.each p lt))
      (sized_next c.args.self.now.seconds (at c.args.self.now.detectors p) (count_at c.args.frame.now p) (c.args.self.now.sized p lt) h.within h.at_most);
}

pub returns : goal.returns
unfolding StandsFor
returns c = λ frames clears s. has_taken c.args.self.now _ frames clears c.args.frame.now s refl c.advance_all.ensures.each
