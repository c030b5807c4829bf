use Rattle.sig_tables.specs.SiteRules.{rules_of}
use Rattle.log_judge.specs.Stands.{terms_of}
use Rattle.refusal_text.specs.Refusals.{turn_of}
use Rattle.refusal_text.proofs.Found.{item_more}
use Rattle.refusal_text.proofs.finder.tell_turns.Goals as goal

pub loop-i-preserved : goal.loop-i-preserved
loop-i-preserved c = record {
  told = λ h s. item_more (turn_of (rules_of c.args.times.now c.args.intergreens.now) (terms_of c.args.judge.now) h c.args.picture.now) _ _ _ c.args.turns.now c.loop-i.i
      c.get.result c.get.ensures (rw (c.turn_of-refusal.ensures.told h s) at c.in-Ok.ensures.pushed) (c.loop-i.invariant.told h s);
  order = λ is. c.in-Ok.ensures.order _ c.turn_of-refusal.ensures.second (c.loop-i.invariant.order is);
}

pub returns-in-Err-clause-order : goal.returns-in-Err-clause-order
returns-in-Err-clause-order c = λ is. c.tell.ensures.order _ c.turn_of-refusal.ensures.second (c.loop-i.invariant.order is)
