use Rattle.std.proofs.Common.{drop}
use Rattle.sig_types.proofs.Bytes.{too_great}
use Rattle.sig_types.proofs.text.digits.Goals as goal

pub returns-then-value-most : goal.returns-then-value-most
returns-then-value-most c = too_great _ _ c.loop-b.value _ (drop c.loop-b.b-index c.args.bytes.now) c.loop-b.invariant.0 c.if-value-most.true
