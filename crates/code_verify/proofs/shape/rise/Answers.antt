use Rattle.std.proofs.Common.{sym, ◌∙◌, arith}
use Rattle.code_verify.proofs.ShapeFacts.{rise_end}
use Rattle.code_verify.proofs.shape.rise.Goals as goal

pub returns : goal.returns
returns c = sym (c.loop-k.invariant ∙ rise_end c.args.starts.now c.loop-k.k (omega (arith, c.loop-k-test.false)))
