use Rattle.std.proofs.Common.{◌≡◌, ◌∙◌, List, ℕ, ap}
use Rattle.controller.specs.Controls.{code_of, logic_of, site_of}
use Rattle.controller.specs.Second.{past_of, record_of}
use Rattle.signal_log.specs.Log.{record_text}
use Rattle.sig_io.proofs.Drafts.{same_put}
use Rattle.junction_run.proofs.Logs.{plan_is}
use Rattle.junction_run.proofs.play.LogTeller.tell.Goals as goal

pub returns-clause-puts : goal.returns-clause-puts
unfolding code_of logic_of
returns-clause-puts g c = λ first frames stands knows.
    let start = c.args.controller.now in
    let past = past_of (logic_of start) (site_of start) first frames in
    let what : c.last.result.now ≡ record_of (logic_of start) (site_of start) past c.args.frame.now = c.last.ensures ∙ c.second_seen.ensures.record past stands in
    let names : c.plan.result.now.names ≡ (site_of start).plan.names
    = ap (λ q. q.names) (c.plan.ensures ∙ c.second_seen.ensures.plan ∙ plan_is start) in
    same_put (λ j. record_text (names j) (what j)) c.put_second.ensures
