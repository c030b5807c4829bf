use Rattle.std.proofs.Common.{◌∙◌, inl, inr, refl, sym, arith}
use Rattle.std.proofs.lemmas.Bool.{cases_lt}
use Rattle.actuation.specs.Detector.{at}
use Rattle.actuation.proofs.Silent.{advanced_silent}
use Rattle.actuation.proofs.detectors.advance_all.Goals as goal

pub loop-place-init : goal.loop-place-init
loop-place-init c = (
  c.requires.size,
  (λ p lt. sym (advanced_silent (at c.args.detectors.now p) _ c.args.second (c.span-low.ensures.outside.before p lt))),
  (λ p le. refl),
)

pub returns-clause-each : goal.returns-clause-each
returns-clause-each c = λ p lt. elim (cases_lt p c.loop-place.place) [
  | inl before ↦ c.loop-place.invariant.1 p before
  | inr after ↦ c.loop-place.invariant.2 p after
      ∙ sym (advanced_silent (at c.args.detectors.now p) _ c.args.second (c.span-low.ensures.outside.after p (omega (arith, after, c.loop-place-test.false))))
]
