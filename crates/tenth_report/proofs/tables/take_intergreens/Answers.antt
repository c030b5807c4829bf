use Rattle.std.proofs.Common.{◌≤◌, ◌∙◌, ℕ, List, length, sym, subst}
use Rattle.sig_tables.specs.Pairs.{between}
use Rattle.site_load.specs.Loading.{table_refusal}
use Rattle.site_load.proofs.Loads.{judged_so, judged_unread, seconds_are}
use Rattle.tenth_tables.specs.Intergreens.{intergreens_refusal, intergreen_of}
use Rattle.tenth_report.proofs.tables.take_intergreens.Goals as goal

pub returns-in-Err-clause-intergreens : goal.returns-in-Err-clause-intergreens
returns-in-Err-clause-intergreens g c = λ file e. judged_unread c.in-Err.stop c.args.word.now (file c.args.word.now) _ _
    (c.in-Err.ensures.unread file e) c.in-Err.ensures.word

pub returns-clause-intergreens : goal.returns-clause-intergreens
returns-clause-intergreens g c = λ file e.
    let judged = c.judge_intergreens.ensures in
    judged_so (λ r. between r.1) c.judge_intergreens.result c.args.word.now (file c.args.word.now) c.deref.result.now
    (λ t. table_refusal c.args.plan (intergreens_refusal c.args.plan t)) (intergreen_of c.args.plan)
    (c.deref.ensures.value ∙ c.in-Ok.ensures.bytes file e)
    (subst (λ (t : List ℕ). length t ≤ 1048576) (sym c.deref.ensures.value) c.in-Ok.ensures.within) judged.accepted
    (seconds_are c.judge_intergreens.result (λ r. between r.1) (intergreen_of c.args.plan c.deref.result.now) judged.tenths) judged.refused judged.word
