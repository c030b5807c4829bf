use Rattle.std.proofs.Common.{refl}
use Rattle.sig_tables.specs.SiteRules.{rules_of}
use Rattle.site_load.specs.Sites.{site_of_tables}
use Rattle.refusal_text.specs.declared.finder.Refusals.{Refusals}
use Rattle.refusal_text.specs.Kept.{told_text}
use Rattle.refusal_text.proofs.Texts.{text_is}
use Rattle.report_judged.specs.RefusalCall.{IsTextOf}
use Rattle.report_judged.specs.RefusalForm.{asked_in}
use Rattle.report_judged.specs.RefusalsFound.{AreFound}
use Rattle.report_judged.proofs.RefusalCalls.{answered, log_fault, no_write, unread}
use Rattle.report_judged.proofs.refusal_call.tell_at.Goals as goal

pub returns-in-Ok-clause-answered : goal.returns-in-Ok-clause-answered
returns-in-Ok-clause-answered g c file told = λ loaded.
    let t = c.args.tables.now in
    let form = c.args.form.now in
    let kept = c.in-Ok.refusals in
    let r = rules_of t.times t.intergreens in
    let is : AreFound t.plan.names r (file form.log.now) form.from form.to kept = c.in-Ok.ensures.found file told in
    let text_of : IsTextOf (asked_in form) file (told_text form.csv t.plan.names kept) = record {
      site = site_of_tables t;
      loaded = loaded;
      records = is.records;
      log = is.log;
      text_is = text_is form.csv t.plan.names kept r form.from form.to is.records is.found;
    } in
    answered (asked_in form) file (told_text form.csv t.plan.names kept) c.write_refusals.result _ _ text_of c.write_refusals.ensures.written

pub returns-in-Err-clause-answered : goal.returns-in-Err-clause-answered
returns-in-Err-clause-answered g c file told = λ loaded.
    unread (asked_in c.args.form.now) file (site_of_tables c.args.tables.now) c.in-Err.stop _ _ loaded (c.in-Err.ensures.found file told) refl

pub returns-in-Err-clause-read : goal.returns-in-Err-clause-read
returns-in-Err-clause-read g c = λ fault. c.in-Err.ensures.cause (log_fault (Unit {0}) Refusals c.in-Err.stop c.in-Err.ensures.of_log fault)

pub returns-in-Err-clause-write : goal.returns-in-Err-clause-write
returns-in-Err-clause-write g c = λ fault. absurd (no_write (Unit {0}) c.in-Err.stop c.in-Err.ensures.of_log fault)
