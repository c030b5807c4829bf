use Rattle.sig_io.proofs.Drafts.{same_put, then}
use Rattle.trace_lines.proofs.Blocks.{one_more}
use Rattle.trace_lines.proofs.lcov.put_tests.Goals as goal

pub loop-block-preserved : goal.loop-block-preserved
loop-block-preserved g c =
    same_put (one_more c.args.line c.args.tests.now c.loop-block.block c.loop-block-test.true) (then c.loop-block.invariant c.put_block.ensures)
