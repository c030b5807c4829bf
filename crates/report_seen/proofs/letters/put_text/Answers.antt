use Rattle.std.proofs.Common.{◌≡◌, ◌+◌, ◌-◌, ◌/◌, arith}
use Rattle.report_seen.specs.Letters.{blocks_to, letters_text}
use Rattle.sig_io.proofs.Drafts.{nothing, then}
use Rattle.report_seen.proofs.Blocks.{blocks_more, then_more}
use Rattle.report_seen.proofs.letters.put_text.Goals as goal

pub loop-number-init : goal.loop-number-init
unfolding blocks_to
loop-number-init g c = then c.put_key.ensures nothing

pub loop-number-preserved : goal.loop-number-preserved
loop-number-preserved g c =
    let i = c.loop-number.invariant in
    then_more _ _ i (rw c.block_at.ensures.block at c.put_block.ensures) (blocks_more _ c.loop-number.number)

pub returns : goal.returns
unfolding letters_text
returns g c =
    let end : c.loop-number.number ≡ (c.args.diagram.now.to - c.args.diagram.now.from) / 60 + 1
    = omega (arith, c.loop-number-test.false, c.loop-number.auto.number-end) in
    rw end at c.loop-number.invariant
