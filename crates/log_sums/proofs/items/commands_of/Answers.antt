use Rattle.log_sums.proofs.Added.{item_more}
use Rattle.log_sums.proofs.items.commands_of.Goals as goal

pub loop-place-preserved : goal.loop-place-preserved
loop-place-preserved c =
    item_more c.loop-place.items.items c.push.new.self.items c.args.stages.now c.loop-place.place c.get.result c.get.ensures c.in-Ok.ensures.items c.loop-place.invariant
