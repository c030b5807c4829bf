use Rattle.std.proofs.Common.{◌∙◌, ℕ, None, ap, arith, get_or}
use Rattle.report_seen.proofs.Losing.{lost_more}
use Rattle.report_seen.proofs.lost.put_second.Goals as goal

pub loop-group-preserved : goal.loop-group-preserved
loop-group-preserved c earlier asked =
    lost_more c.args.rec.now earlier c.loop-group.group _ c.args.starts.now.items c.loop-group.starts.items c.put_lost.new.starts.items
    (ap (λ (k : ℕ). get_or c.args.asked.now k None) c.from.ensures ∙ asked c.loop-group.group (omega (arith, c.loop-group-test.true, c.len-group-end.ensures.len))) c.in_ok-put_lost.ensures (c.loop-group.invariant earlier asked)
