use Rattle.std.proofs.Common.{arith}
use Rattle.log_compare.proofs.Lists.{same_list}
use Rattle.log_compare.proofs.alike.same_stages.Goals as goal

pub returns-clause-same : goal.returns-clause-same
returns-clause-same c = λ is.
    same_list c.args.one.now c.args.other.now (omega (arith, c.if-len.false, c.len.ensures.len, c.len-2.ensures.len))
    (λ i inside. c.loop-place.invariant i (omega (arith, c.loop-place-test.false, c.len-place-end.ensures.len, inside)))
