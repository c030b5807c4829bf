use Rattle.std.proofs.Common.{◌∙◌, Bool, ap, refl}
use Rattle.site_load.specs.Sites.{site_of_tables}
use Rattle.report_judged.specs.BreachCall.{is_some_breach, text_of}
use Rattle.report_judged.specs.BreachForm.{asked_in}
use Rattle.report_judged.proofs.BreachCalls.{cut_short, log_stopped, no_read, told}
use Rattle.report_judged.proofs.breach_call.judge_at.Goals as goal

pub returns-in-Err-clause-judged : goal.returns-in-Err-clause-judged
returns-in-Err-clause-judged g c file e site =
    log_stopped (asked_in c.args.form.now) file (site_of_tables c.args.tables.now) c.in-Err.stop _ _ site (c.in-Err.ensures.found file e)
    refl

pub returns-in-Ok-write_found-clause-judged : goal.returns-in-Ok-write_found-clause-judged
returns-in-Ok-write_found-clause-judged g c file e site =
    let f = c.in-Ok.found in
    let at = site_of_tables c.args.tables.now in
    let asked = asked_in c.args.form.now in (
      text_of asked.csv at.plan.names f.first f.pictures f.breaches.items,
      (
        told asked file at f c.is_some.result site (c.in-Ok.ensures.found file e) (c.is_some.ensures ∙ ap is_some_breach c.deref.ensures.value),
        c.in-Ok-write_found.ensures.written,
      ),
    )

pub returns-clause-judged : goal.returns-clause-judged
returns-clause-judged g c file e site =
    let f = c.in-Ok.found in
    let at = site_of_tables c.args.tables.now in
    let asked = asked_in c.args.form.now in
    cut_short asked file (text_of asked.csv at.plan.names f.first f.pictures f.breaches.items) (is_some_breach f.breaches.items) c.in-Err-write_found.stop _ _
    (told asked file at f (is_some_breach f.breaches.items) site (c.in-Ok.ensures.found file e) refl)
    c.in-Err-write_found.ensures.written

pub returns-clause-read : goal.returns-clause-read
returns-clause-read g c is = absurd (no_read Bool _ c.in-Err-write_found.stop _ _ c.in-Err-write_found.ensures.written is)
