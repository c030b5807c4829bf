use Rattle.std.proofs.Common.{◌≤◌, ◌∙◌, ℕ, List, length, sym, subst}
use Rattle.pua_reader.specs.Accepted.{refusal_of, plan_of_text}
use Rattle.site_load.specs.Loading.{plan_refusal}
use Rattle.site_load.proofs.Loads.{judged_so, judged_unread}
use Rattle.site_load.proofs.site.take_plan.Goals as goal

pub returns-in-Err-clause-plan : goal.returns-in-Err-clause-plan
returns-in-Err-clause-plan g c = λ file e. judged_unread c.in-Err.stop c.args.word.now (file c.args.word.now) _ _ (c.in-Err.ensures.unread file e)
    c.in-Err.ensures.word

pub returns-clause-plan : goal.returns-clause-plan
returns-clause-plan g c = λ file e.
    let judged = c.judge_plan.ensures in
    judged_so (λ plan. plan) c.judge_plan.result c.args.word.now (file c.args.word.now) c.deref.result.now (λ t. plan_refusal (refusal_of t)) plan_of_text
    (c.deref.ensures.value ∙ c.in-Ok.ensures.bytes file e)
    (subst (λ (t : List ℕ). length t ≤ 1048576) (sym c.deref.ensures.value) c.in-Ok.ensures.within) judged.accepted judged.plan judged.refused judged.word
