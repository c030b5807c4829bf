use Rattle.std.proofs.Common.{◌<◌, inl, inr, arith, rules}
use Rattle.std.proofs.lemmas.Bool.{cases_lt}
use Rattle.actuation.proofs.Silent.{can_take_silent}
use Rattle.actuation.proofs.detectors.can_take.Goals as goal

pub loop-place-init : goal.loop-place-init
loop-place-init c = λ p lt.
    let inside : p < 64 = omega (arith, lt, c.span-low.ensures.low) in
    can_take_silent c.args.detectors.now c.args.frame.now p (c.span-low.ensures.outside.before p lt) (c.requires.within p inside) (c.requires.at_most p inside)

pub returns-clause-holds : goal.returns-clause-holds
returns-clause-holds c = (
  (λ h p lt. elim (cases_lt p c.loop-place.place) [
    | inl before ↦ c.loop-place.invariant p before
    | inr after ↦ can_take_silent c.args.detectors.now c.args.frame.now p (c.span-low.ensures.outside.after p (omega (arith, after, c.loop-place-test.false))) (c.requires.within p lt) (c.requires.at_most p lt)
  ]),
  (λ h. search rules),
)
