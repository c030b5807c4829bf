use Rattle.log_sums.proofs.EarlyTurns.{early_more, one_most}
use Rattle.log_sums.proofs.early.early_of.Goals as goal

pub loop-place-preserved : goal.loop-place-preserved
loop-place-preserved c =
    let before = c.loop-place.invariant in
    let old = c.loop-place.items.items in
    let new = c.put_early.new.items.items in
    let turn = c.get-turn.result in
    record {
      items = λ early tells.
          early_more early c.args.turns.now c.loop-place.place turn old new c.is_early.result c.get-turn.ensures (c.is_early.ensures early tells)
          c.in_ok-put_early.ensures (before.items early tells);
      few = one_most old new turn c.is_early.result c.loop-place.place c.in_ok-put_early.ensures before.few;
    }
