use Rattle.std.proofs.Common.{List, sym, subst}
use Rattle.refusal_text.specs.declared.refusal.Refusal.{Refusal}
use Rattle.refusal_text.specs.Order.{AreUpTo}
use Rattle.refusal_text.proofs.Order.{order_more}
use Rattle.refusal_text.proofs.finder.tell.Goals as goal

pub returns-in-Ok-clause-order : goal.returns-in-Ok-clause-order
returns-in-Ok-clause-order c = λ n now is.
    subst (λ (ys : List Refusal). AreUpTo n ys) (sym c.in-Ok.ensures.items) (order_more n c.args.found.now.items c.args.refusal now is)

pub returns-in-Err-clause-order : goal.returns-in-Err-clause-order
returns-in-Err-clause-order c = λ n now is. subst (λ (ys : List Refusal). AreUpTo n ys) (sym c.in-Err.ensures.items) is
