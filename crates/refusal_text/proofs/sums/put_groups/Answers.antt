use Rattle.std.proofs.Common.{◌≡◌, arith, length}
use Rattle.sig_io.proofs.Drafts.{nothing, then}
use Rattle.refusal_text.specs.Sums.{groups_to}
use Rattle.refusal_text.proofs.SumLines.{groups_more}
use Rattle.refusal_text.proofs.sums.put_groups.Goals as goal

pub loop-group-init : goal.loop-group-init
unfolding groups_to
loop-group-init g c = nothing

pub loop-group-preserved : goal.loop-group-preserved
loop-group-preserved g c = rw (groups_more c.args.plan.now.names c.args.found.now c.loop-group.group) (then c.loop-group.invariant c.put_group.ensures)

pub returns : goal.returns
returns g c =
    let all : c.loop-group.group ≡ length c.args.plan.now.names = omega (arith, c.loop-group-test.false, c.groups-group-end.ensures.count) in
    rw all at c.loop-group.invariant
