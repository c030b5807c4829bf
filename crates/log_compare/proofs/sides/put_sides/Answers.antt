use Rattle.sig_io.proofs.Drafts.{same_put, then}
use Rattle.log_compare.proofs.Besides.{before_put, side_put}
use Rattle.log_compare.proofs.sides.put_sides.Goals as goal

pub loop-side-preserved : goal.loop-side-preserved
loop-side-preserved g c =
    let sides = c.args.sides.now in
    let n = c.loop-side.side-index in
    record {
      puts = same_put (side_put sides n _ _ c.loop-side-test.true c.loop-side.invariant.before) (then c.loop-side.invariant.puts c.put_side.ensures);
      before = before_put sides n _ c.loop-side-test.true;
    }
