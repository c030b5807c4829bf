use Rattle.std.proofs.Common.{◌∙◌, ℕ, List, sym, ap, subst, arith}
use Rattle.std.proofs.lemmas.List.{append-nil}
use Rattle.sig_types.specs.Turns.{History}
use Rattle.log_judge.specs.Stands.{StandsFor, seconds_of}
use Rattle.refusal_text.specs.declared.refusal.Refusal.{Refusal}
use Rattle.refusal_text.specs.Kept.{records_of}
use Rattle.refusal_text.specs.Order.{AreUpTo}
use Rattle.refusal_text.specs.Refusals.{known_before}
use Rattle.refusal_text.proofs.Order.{order_none}
use Rattle.refusal_text.proofs.finder.Refusals.begin.Goals as goal

pub invariant_of-self : goal.invariant_of-self
unfolding records_of
invariant_of-self c = record {
  few = c.args.self.now.few;
  judged = c.judge_from-self.ensures.groups;
  shown = omega (arith, c.judge_from-self.ensures.few);
  none = c.args.self.now.none;
  order = subst (λ (xs : List Refusal). AreUpTo (seconds_of c.judge_from-self.result) xs) (sym (c.args.self.now.none c.requires))
      (order_none (seconds_of c.judge_from-self.result));
}

pub returns-clause-found : goal.returns-clause-found
returns-clause-found c = λ r from to is. record {
  groups = is.groups;
  count = sym is.none;
  asked = record { from_is = is.asked.from_is; to_is = is.asked.to_is };
  terms = c.judge_from-self.ensures.terms;
  stands = subst (λ (h : History). StandsFor c.judge_from-self.result h)
      (ap (λ (n : ℕ). known_before n c.args.second) (sym is.groups) ∙ sym (append-nil (known_before r.count c.args.second))) c.judge_from-self.ensures.stands;
  first = c.first_known-self.ensures;
  found = is.found;
}
