use Rattle.std.proofs.Common.{arith}
use Rattle.junction_calls.proofs.Sums.{sum_of_all}
use Rattle.junction_calls.proofs.commands.sum_of.Goals as goal

pub returns : goal.returns
returns c =
    sum_of_all c.args.groups.now c.loop-place.place c.loop-place.sum
    (omega (arith, c.loop-place-test.false, c.loop-place.auto.place-end)) c.loop-place.invariant.sum
