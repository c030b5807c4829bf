use Rattle.std.proofs.Common.{rules, arith, ap}
use Rattle.det_stream.specs.Stream.{ahead_reason}
use Rattle.det_stream.proofs.TotalLemmas.{none_ahead, one_ahead, within_span}
use Rattle.det_stream.proofs.totals.judge_totals.Goals as goal

pub loop-place-init : goal.loop-place-init
loop-place-init c = λ k lt. c.requires k (omega (arith, c.span-low.ensures.low)) (c.span-low.ensures.outside.before k lt)

pub returns-then-fronts-rears-clause-judged : goal.returns-then-fronts-rears-clause-judged
returns-then-fronts-rears-clause-judged c =
    ap ahead_reason (one_ahead c.args.totals.now c.loop-place.place (search rules) (omega (arith, c.loop-place-test.true, c.span-low.ensures.high))
    c.loop-place.invariant)

pub returns-clause-judged : goal.returns-clause-judged
returns-clause-judged c = ap ahead_reason (none_ahead c.args.totals.now
    (within_span c.args.totals.now c.args.frame.now c.span-low.result.0 c.span-low.result.1 c.loop-place.place c.span-low.ensures.outside
    (omega arith) c.requires c.loop-place.invariant))

pub returns-clause-within_fronts : goal.returns-clause-within_fronts
returns-clause-within_fronts c =
    within_span c.args.totals.now c.args.frame.now c.span-low.result.0 c.span-low.result.1 c.loop-place.place c.span-low.ensures.outside
    (omega arith) c.requires c.loop-place.invariant
