use Rattle.std.proofs.Common.{refl}
use Rattle.sig_tables.specs.SiteRules.{rules_of}
use Rattle.site_load.specs.Sites.{site_of_tables}
use Rattle.judge_text.specs.declared.tick.Tick.TheVariants.{Second}
use Rattle.log_protocol.specs.Texts.{page_text}
use Rattle.report_judged.specs.ProtocolCall.{IsTextOf}
use Rattle.report_judged.specs.ProtocolForm.{asked_in}
use Rattle.report_judged.specs.declared.protocol_gathering.Gathered.{Gathered}
use Rattle.report_judged.specs.ProtocolGathered.{IsGathered}
use Rattle.report_judged.proofs.ProtocolCalls.{answered, log_fault, no_write, unread}
use Rattle.report_judged.proofs.protocol_call.tell_at.Goals as goal

pub returns-in-Ok-clause-answered : goal.returns-in-Ok-clause-answered
returns-in-Ok-clause-answered g c file told = λ loaded.
    let t = c.args.tables.now in
    let form = c.args.form.now in
    let gathered = c.in-Ok.gathered in
    let is : IsGathered t.plan.names (file form.log.now) gathered = c.in-Ok.ensures.gathering file told in
    let text_of : IsTextOf (asked_in form) file (page_text Second form.style gathered.first t.plan.names (rules_of t.times t.intergreens) is.pictures) = record {
      site = site_of_tables t;
      loaded = loaded;
      pictures = is.pictures;
      log = is.log;
      first = gathered.first;
      first_is = is.first;
      text_is = refl;
    } in
    answered (asked_in form) file (page_text Second form.style gathered.first t.plan.names (rules_of t.times t.intergreens) is.pictures)
    c.write_page.result _ _ text_of (c.write_page.ensures.written is.pictures is.page)

pub returns-in-Err-clause-answered : goal.returns-in-Err-clause-answered
returns-in-Err-clause-answered g c file told = λ loaded.
    unread (asked_in c.args.form.now) file (site_of_tables c.args.tables.now) c.in-Err.stop _ _ loaded (c.in-Err.ensures.gathering file told) refl

pub returns-in-Err-clause-read : goal.returns-in-Err-clause-read
returns-in-Err-clause-read g c = λ fault. c.in-Err.ensures.cause (log_fault (Unit {0}) Gathered c.in-Err.stop c.in-Err.ensures.of_log fault)

pub returns-in-Err-clause-write : goal.returns-in-Err-clause-write
returns-in-Err-clause-write g c = λ fault. absurd (no_write (Unit {0}) c.in-Err.stop c.in-Err.ensures.of_log fault)
