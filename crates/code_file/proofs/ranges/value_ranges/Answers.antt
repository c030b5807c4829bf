use Rattle.std.proofs.Common.{arith}
use Rattle.code_file.proofs.RangeFacts.{all_fit}
use Rattle.code_file.proofs.ranges.value_ranges.Goals as goal

pub returns : goal.returns
returns c = all_fit c.args.values.now (λ k lt. c.loop-i.invariant k (omega (arith, lt, c.loop-i-test.false)))
