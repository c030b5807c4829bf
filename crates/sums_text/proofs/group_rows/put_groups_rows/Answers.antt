use Rattle.std.proofs.Common.{◌<◌, length, arith}
use Rattle.sig_io.proofs.Drafts.{nothing, same_put, then}
use Rattle.sums_text.specs.Table.{groups_rows, span_of}
use Rattle.sums_text.proofs.TableRows.{groups_more}
use Rattle.sums_text.proofs.group_rows.put_groups_rows.Goals as goal

pub loop-place-init : goal.loop-place-init
unfolding groups_rows
loop-place-init g c = nothing

pub loop-place-preserved : goal.loop-place-preserved
loop-place-preserved g c =
    let i = c.loop-place.invariant in
    let n = c.loop-place.place in
    let x = c.args.sums.now in
    let has : n < length c.args.groups.now = omega (arith, c.loop-place-test.true, c.requires.few, c.told-groups) in
    same_put
    (groups_more (span_of x) x.goes_on x.seconds c.args.counted c.args.names.now c.args.groups.now n c.index-names-place.result _ _
    c.loop-place-test.true has c.index-names-place.is c.lead_of.ensures)
    (then i c.put_group_rows.ensures)
