use Rattle.report_seen.specs.Letters.{groups_rows}
use Rattle.sig_io.proofs.Drafts.{nothing, then}
use Rattle.report_seen.proofs.Blocks.{groups_more}
use Rattle.report_seen.proofs.letters.put_groups.Goals as goal

pub loop-place-init : goal.loop-place-init
unfolding groups_rows
loop-place-init g c = nothing

pub loop-place-preserved : goal.loop-place-preserved
loop-place-preserved g c =
    let i = c.loop-place.invariant in
    rw groups_more (then i c.put_group.ensures)
