use Rattle.line_slips.specs.Bytes.{begins_with_two}
use Rattle.line_slips.proofs.Somewhere.{found, passed}
use Rattle.line_slips.proofs.bytes.has_two_spaces.Goals as goal

pub returns-then-begins_with_two : goal.returns-then-begins_with_two
returns-then-begins_with_two c =
    found begins_with_two c.args.line.now c.split_at.result.1.now c.loop-i.i c.loop-i-test.true c.split_at.ensures.back
    c.loop-i.invariant c.if-begins_with_two.ensures

pub loop-i-preserved : goal.loop-i-preserved
loop-i-preserved c =
    passed begins_with_two c.args.line.now c.split_at.result.1.now c.loop-i.i c.loop-i-test.true c.split_at.ensures.back
    c.loop-i.invariant c.if-begins_with_two.ensures
