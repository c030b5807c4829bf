use Rattle.std.proofs.Common.{arith}
use Rattle.sig_io.proofs.Drafts.{same_put, then}
use Rattle.trace_told.proofs.Pieces.{take_on}
use Rattle.trace_told.proofs.columns.put_long.Goals as goal

pub loop-at-preserved : goal.loop-at-preserved
loop-at-preserved g c = record {
  puts = same_put (take_on c.args.bytes.now c.loop-at.at c.min-end.result (omega (arith, c.min-end.ensures, c.loop-at-test.true)))
      (then c.loop-at.invariant.puts c.put.ensures);
  within = omega (arith, c.min-end.ensures);
}
