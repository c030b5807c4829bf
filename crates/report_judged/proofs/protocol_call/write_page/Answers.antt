use Rattle.std.proofs.Common.{◌≡◌, ◌∙◌, ℕ, List, [], ◌++◌, length, ap}
use Rattle.sig_io.proofs.Drafts.{same_put, then}
use Rattle.sig_tables.specs.SiteRules.{rules_of}
use Rattle.judge_text.specs.declared.tick.Tick.TheVariants.{Second}
use Rattle.log_protocol.specs.Came.{came_in}
use Rattle.log_protocol.specs.Page.{came_on}
use Rattle.log_protocol.specs.Texts.{came_text, head_text, page_text}
use Rattle.log_protocol.proofs.Pages.{same_came, same_seconds}
use Rattle.log_protocol.proofs.Same.{same_text}
use Rattle.report_judged.proofs.protocol_call.write_page.Goals as goal

pub returns-clause-written : goal.returns-clause-written
unfolding page_text
returns-clause-written g c = λ pictures is.
    let start = g.O.Sink.taken c.args.out.now in
    let t = c.args.tables.now in
    let page = c.args.gathered.now.page in
    let first = c.args.gathered.now.first in
    let rules = rules_of t.times t.intergreens in
    let came : List ℕ = came_text Second c.args.style first (came_on page) t.plan.names rules in
    let put = rw (c.of-limits.ensures.times, c.of-limits.ensures.pairs) at c.put.ensures in
    let same : head_text Second c.args.style c.seconds.result first ++ came ≡ page_text Second c.args.style first t.plan.names rules pictures =
    ap (λ n. head_text Second c.args.style n first ++ came) (c.seconds.ensures ∙ same_seconds page pictures is)
    ∙ ap (λ (x : List ℕ). head_text Second c.args.style (length pictures) first ++ x)
    (same_text Second c.args.style first (came_on page) (came_in pictures) t.plan.names rules
    (same_came page pictures (length t.plan.names) is c.requires.groups)) in
    c.end.ensures.written start (page_text Second c.args.style first t.plan.names rules pictures)
    ((same_put same (then c.put_head.ensures put)).text start [] (c.new-draft.ensures.text start))
