use Rattle.std.proofs.Common.{◌≡◌, arith, length}
use Rattle.sig_io.proofs.Drafts.{nothing, then}
use Rattle.judge_text.specs.Sums.{pairs_to}
use Rattle.judge_text.proofs.SumLines.{pairs_more}
use Rattle.judge_text.proofs.sums.put_pairs.Goals as goal

pub loop-group-init : goal.loop-group-init
unfolding pairs_to
loop-group-init g c = nothing

pub loop-group-preserved : goal.loop-group-preserved
loop-group-preserved g c = rw (pairs_more c.args.plan.now.names c.args.found.now c.args.rule c.loop-group.group) (then c.loop-group.invariant c.put_others.ensures)

pub returns : goal.returns
returns g c =
    let all : c.loop-group.group ≡ length c.args.plan.now.names = omega (arith, c.loop-group-test.false, c.groups-group-end.ensures.count) in
    rw all at c.loop-group.invariant
