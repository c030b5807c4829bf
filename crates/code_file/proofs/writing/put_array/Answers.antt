use Rattle.std.proofs.Common.{arith, []}
use Rattle.sig_io.proofs.Drafts.{same_put, then}
use Rattle.code_file.proofs.ValueTexts.{one_more, line_is}
use Rattle.code_file.proofs.writing.put_array.Goals as goal

pub loop-i-preserved : goal.loop-i-preserved
loop-i-preserved g c =
    let i = c.loop-i.invariant in
    record {
      puts = same_put (one_more c.loop-i.i c.args.values.now [] i.some c.loop-i-test.true) (then i.puts c.put_value.ensures);
      some = omega arith;
    }

pub returns : goal.returns
returns g c = same_put (line_is c.loop-i.i c.args.values.now [] (omega arith)) (then c.loop-i.invariant.puts c.put.ensures)
