use Rattle.line_slips.specs.Bytes.{begins_with_decimal}
use Rattle.line_slips.proofs.Somewhere.{found, passed}
use Rattle.line_slips.proofs.bytes.has_decimal.Goals as goal

pub returns-then-begins_with_decimal : goal.returns-then-begins_with_decimal
returns-then-begins_with_decimal c =
    found begins_with_decimal c.args.line.now c.split_at.result.1.now c.loop-i.i c.loop-i-test.true c.split_at.ensures.back
    c.loop-i.invariant c.if-begins_with_decimal.ensures

pub loop-i-preserved : goal.loop-i-preserved
loop-i-preserved c =
    passed begins_with_decimal c.args.line.now c.split_at.result.1.now c.loop-i.i c.loop-i-test.true c.split_at.ensures.back
    c.loop-i.invariant c.if-begins_with_decimal.ensures
