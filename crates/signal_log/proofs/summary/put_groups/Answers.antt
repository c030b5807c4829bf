use Rattle.std.proofs.Common.{◌∙◌, ◌<◌, [], length, arith}
use Rattle.sig_io.proofs.Drafts.{same_put, then}
use Rattle.signal_log.specs.Summary.{kept_greens}
use Rattle.signal_log.proofs.Tallies.{groups_more}
use Rattle.signal_log.proofs.summary.put_groups.Goals as goal

pub loop-g-preserved : goal.loop-g-preserved
loop-g-preserved g c =
    let names = c.args.plan.now.names in
    let lt : c.loop-g.g < length names = omega (arith, c.groups-g-end.ensures.count) in
    same_put (groups_more (kept_greens c.args.summary.now) c.loop-g.g names c.as_bytes.result.now c.from-count.result [] lt
    (c.as_bytes.ensures.value ∙ c.group_name.ensures.name) (c.from-count.ensures ∙ c.greens_of.ensures)) (then c.loop-g.invariant c.put_tally.ensures)
