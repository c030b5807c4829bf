use Rattle.std.proofs.Common.{◌<◌, length, arith}
use Rattle.sig_io.proofs.Drafts.{nothing, same_put, then}
use Rattle.sums_text.specs.Words.{groups_text}
use Rattle.sums_text.proofs.Groups.{groups_more}
use Rattle.sums_text.proofs.group.put_groups.Goals as goal

pub loop-place-init : goal.loop-place-init
unfolding groups_text
loop-place-init g c = nothing

pub loop-place-preserved : goal.loop-place-preserved
loop-place-preserved g c =
    let i = c.loop-place.invariant in
    let n = c.loop-place.place in
    let has : n < length c.args.groups.now = omega (arith, c.loop-place-test.true, c.requires.few, c.told-groups) in
    same_put
    (groups_more c.args.goes_on c.args.seconds c.args.counted c.args.names.now c.args.groups.now n c.index-names-place.result _
    c.loop-place-test.true has c.index-names-place.is)
    (then i c.put_group.ensures)
