use Rattle.std.proofs.Common.{refl}
use Rattle.refusal_text.specs.Refusals.{command_of}
use Rattle.refusal_text.proofs.Found.{item_more}
use Rattle.refusal_text.proofs.finder.tell_commands.Goals as goal

pub loop-i-preserved : goal.loop-i-preserved
loop-i-preserved c = record {
  told = item_more (command_of c.args.second c.args.place) _ _ _ c.args.stages.now c.loop-i.i c.get.result c.get.ensures c.in-Ok.ensures.pushed
      c.loop-i.invariant.told;
  order = λ is. c.in-Ok.ensures.order _ refl (c.loop-i.invariant.order is);
}

pub returns-in-Err-clause-order : goal.returns-in-Err-clause-order
returns-in-Err-clause-order c = λ is. c.tell.ensures.order c.args.second refl (c.loop-i.invariant.order is)
