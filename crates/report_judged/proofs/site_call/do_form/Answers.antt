use Rattle.std.proofs.Common.{◌∙◌, refl}
use Rattle.site_load.specs.declared.site.SiteTables.{SiteTables}
use Rattle.site_load.specs.Sites.{site_in, site_of_tables}
use Rattle.report_judged.proofs.SiteCalls.{site_fault}
use Rattle.report_judged.proofs.SiteLoading.{names_are, names_unread}
use Rattle.report_judged.proofs.site_call.do_form.Goals as goal

pub returns-in-Err-clause-answered : goal.returns-in-Err-clause-answered
returns-in-Err-clause-answered g c file told = (refl, c.in-Err.ensures.site file told)

pub returns-in-Err-clause-read : goal.returns-in-Err-clause-read
returns-in-Err-clause-read g c = λ fault. c.in-Err.ensures.cause (site_fault SiteTables c.in-Err.stop fault)

pub returns-in-Ok-take_names-clause-answered : goal.returns-in-Ok-take_names-clause-answered
returns-in-Ok-take_names-clause-answered g c file told =
    let loaded = c.in-Ok.ensures.site file told in
    let still = c.in-Ok.ensures.contents_stay ∙ told in
    c.draw_at.ensures.answered file (c.in-Ok-take_names.ensures.contents_stay ∙ still) loaded
    (c.deref.ensures.value ∙ (c.in-Ok-take_names.ensures.names file still ∙ names_are (site_in c.args.form.now.site) file (site_of_tables c.in-Ok.tables) loaded))

pub returns-clause-answered : goal.returns-clause-answered
returns-clause-answered g c file told = (
  refl,
  names_unread (site_in c.args.form.now.site) file c.in-Err-take_names.stop
      (c.in-Err-take_names.ensures.unread file (c.in-Ok.ensures.contents_stay ∙ told)) c.in-Err-take_names.ensures.word,
)
