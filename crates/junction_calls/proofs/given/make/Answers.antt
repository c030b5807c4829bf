use Rattle.std.proofs.Common.{rules, ◌≡◌, ◌∙◌, IsTrue, refl, subst, inl, inr}
use Rattle.controller.specs.Controls.{StandsFor, plan_of, site_of}
use Rattle.controller.specs.Given.{given_record, past_after_given}
use Rattle.junction_calls.specs.Given.{given_in}
use Rattle.junction_calls.specs.Numbers.{IsTold}
use Rattle.junction_calls.proofs.given.make.Goals as goal

pub returns-then-not-takes-clause-second : goal.returns-then-not-takes-clause-second
returns-then-not-takes-clause-second c = λ past stands given named same. record {
  answers = inr (inl refl);
  frame = c.frame_of-frame.result;
  counted = c.frame_of-frame.ensures;
  untaken = (λ e. λ taken. let is : IsTrue c.takes.result = (c.takes.ensures past stands).1 taken in search rules, λ untaken. refl);
  unnamed = search rules;
  named = search rules;
  stands = search rules;
  tells = search rules;
  site = refl;
  logic = refl;
  still = search rules;
}

pub returns-clause-second : goal.returns-clause-second
returns-clause-second c = λ past stands given named same.
    let made : c.last.result.now ≡ given_record (site_of c.args.controller.now) past c.frame_of-frame.result (given_in (plan_of c.args.controller.now) past given) =
    subst (λ l. c.last.result.now ≡ given_record (site_of c.args.controller.now) past c.frame_of-frame.result l) same
    (c.last.ensures ∙ c.given_second.ensures.record past stands) in
    record {
      answers = inl refl;
      frame = c.frame_of-frame.result;
      counted = c.frame_of-frame.ensures;
      untaken = (λ e. search rules, λ untaken. absurd (untaken ((c.takes.ensures past stands).0 (search rules))));
      unnamed = search rules;
      named = λ e. named;
      stands = λ e.
          subst (λ l. StandsFor c.given_second.new.self (past_after_given (site_of c.args.controller.now) past c.frame_of-frame.result l)) same
          (c.given_second.ensures.stands past stands);
      tells = λ e. subst (λ r. IsTold r c.told_of.result) made c.told_of.ensures;
      site = c.given_second.ensures.site;
      logic = c.given_second.ensures.logic;
      still = search rules;
    }
