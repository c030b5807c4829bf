use Rattle.std.proofs.Common.{◌≤◌, ◌∙◌, ℕ, List, length, sym, subst}
use Rattle.site_load.specs.Loading.{table_refusal}
use Rattle.site_load.proofs.Loads.{judged_so, judged_unread}
use Rattle.tenth_tables.specs.Times.{times_refusal, times_of}
use Rattle.tenth_report.proofs.tables.take_times.Goals as goal

pub returns-in-Err-clause-times : goal.returns-in-Err-clause-times
returns-in-Err-clause-times g c = λ file e. judged_unread c.in-Err.stop c.args.word.now (file c.args.word.now) _ _ (c.in-Err.ensures.unread file e)
    c.in-Err.ensures.word

pub returns-clause-times : goal.returns-clause-times
returns-clause-times g c = λ file e.
    let judged = c.judge_times.ensures in
    judged_so (λ r. r.1) c.judge_times.result c.args.word.now (file c.args.word.now) c.deref.result.now
    (λ t. table_refusal c.args.plan (times_refusal c.args.plan t)) (times_of c.args.plan)
    (c.deref.ensures.value ∙ c.in-Ok.ensures.bytes file e)
    (subst (λ (t : List ℕ). length t ≤ 1048576) (sym c.deref.ensures.value) c.in-Ok.ensures.within) judged.accepted judged.times judged.refused judged.word
