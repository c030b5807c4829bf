use Rattle.std.proofs.Common.{◌∙◌}
use Rattle.report_seen.proofs.Losing.{other_last, turn_last}
use Rattle.report_seen.proofs.lost.last_of.Goals.{then-turn-group, else-turn-group}
use Rattle.report_seen.proofs.lost.last_of.Goals as goal

pub loop-place-preserved : goal.loop-place-preserved
loop-place-preserved c =
    elim c.if-turn-group.branch [
      | then-turn-group w ↦ w.last-is ∙ turn_last c.args.group c.args.turns.now c.loop-place.place c.get-turn.result c.get-turn.ensures w.if-turn-group.true
      | else-turn-group w ↦ w.last-is ∙ other_last c.args.group c.args.turns.now c.loop-place.place c.get-turn.result _ c.get-turn.ensures w.if-turn-group.false c.loop-place.invariant
    ]
