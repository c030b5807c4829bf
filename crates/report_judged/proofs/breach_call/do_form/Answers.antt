use Rattle.std.proofs.Common.{◌∙◌, Bool, refl}
use Rattle.site_load.specs.declared.site.SiteTables.{SiteTables}
use Rattle.report_judged.proofs.BreachCalls.{site_fault}
use Rattle.report_judged.proofs.breach_call.do_form.Goals as goal

pub returns-in-Err-clause-answered : goal.returns-in-Err-clause-answered
returns-in-Err-clause-answered g c file e = (refl, c.in-Err.ensures.site file e)

pub returns-in-Err-clause-read : goal.returns-in-Err-clause-read
returns-in-Err-clause-read g c is = c.in-Err.ensures.cause (site_fault Bool SiteTables c.in-Err.stop is)

pub returns-clause-answered : goal.returns-clause-answered
returns-clause-answered g c file e = c.judge_at.ensures.judged file (c.in-Ok.ensures.contents_stay ∙ e) (c.in-Ok.ensures.site file e)
