use Rattle.std.proofs.Common.{◌≡◌, arith, length}
use Rattle.sig_io.proofs.Drafts.{nothing, then}
use Rattle.judge_text.specs.Sums.{others_to}
use Rattle.judge_text.proofs.SumLines.{others_more}
use Rattle.judge_text.proofs.sums.put_others.Goals as goal

pub loop-other-init : goal.loop-other-init
unfolding others_to
loop-other-init g c = nothing

pub loop-other-preserved : goal.loop-other-preserved
loop-other-preserved g c = rw (others_more c.args.plan.now.names c.args.found.now c.args.rule c.args.group c.loop-other.other) (then c.loop-other.invariant c.put_sum.ensures)

pub returns : goal.returns
returns g c =
    let all : c.loop-other.other ≡ length c.args.plan.now.names = omega (arith, c.loop-other-test.false, c.groups-other-end.ensures.count) in
    rw all at c.loop-other.invariant
