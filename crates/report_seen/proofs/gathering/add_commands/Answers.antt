use Rattle.log_svg.specs.declared.marks.Refused.TheVariants.{Command}
use Rattle.report_seen.proofs.Marks.{item_more}
use Rattle.report_seen.proofs.gathering.add_commands.Goals as goal

pub loop-place-preserved : goal.loop-place-preserved
loop-place-preserved c =
    item_more (λ x. record { second = c.args.second; refused = Command x }) _ _ _ c.args.stages.now c.loop-place.place c.get.result
    c.get.ensures c.in_ok-add_refusal.ensures c.loop-place.invariant
