use Rattle.std.proofs.Common.{◌≡◌, arith}
use Rattle.report_seen.specs.Letters.{ticks_row, ticks_to}
use Rattle.sig_io.proofs.Drafts.{nothing, then}
use Rattle.report_seen.proofs.Blocks.{then_more, ticks_more}
use Rattle.report_seen.proofs.letters.put_ticks.Goals as goal

pub loop-place-init : goal.loop-place-init
unfolding ticks_to
loop-place-init g c = then c.put_name.ensures nothing

pub loop-place-preserved : goal.loop-place-preserved
loop-place-preserved g c =
    let i = c.loop-place.invariant in
    then_more _ _ i (rw c.tick_of.ensures.tick at c.put.ensures) (ticks_more c.args.block.first c.loop-place.place)

pub returns : goal.returns
unfolding ticks_row
returns g c =
    let end : c.loop-place.place ≡ c.args.block.count = omega (arith, c.loop-place-test.false, c.loop-place.auto.place-end) in
    rw end at (then c.loop-place.invariant c.put-2.ensures)
