use Rattle.std.proofs.Common.{◌≡◌, arith, refl}
use Rattle.report_seen.specs.Letters.{free_to, numbers_row, numbers_to}
use Rattle.sig_io.proofs.Drafts.{nothing, then}
use Rattle.report_seen.proofs.Blocks.{free_more, numbers_more, then_more}
use Rattle.report_seen.proofs.letters.put_numbers.Goals as goal

pub loop-place-init : goal.loop-place-init
unfolding free_to numbers_to
loop-place-init g c = record {
  puts = then c.put_name.ensures nothing;
  free = refl;
}

pub loop-place-preserved : goal.loop-place-preserved
loop-place-preserved g c =
    let i = c.loop-place.invariant in
    record {
      puts = then_more _ _ i.puts (rw c.loop-place.invariant.free at c.put_number_cell.ensures)
          (numbers_more c.args.block.first c.loop-place.place);
      free = rw free_more (rw i.free at c.free_after-free.ensures);
    }

pub returns : goal.returns
unfolding numbers_row
returns g c =
    let end : c.loop-place.place ≡ c.args.block.count = omega (arith, c.loop-place-test.false, c.loop-place.auto.place-end) in
    rw end at (then c.loop-place.invariant.puts c.put.ensures)
