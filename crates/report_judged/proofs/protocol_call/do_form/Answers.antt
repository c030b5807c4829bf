use Rattle.std.proofs.Common.{◌∙◌, refl}
use Rattle.site_load.specs.declared.site.SiteTables.{SiteTables}
use Rattle.report_judged.proofs.ProtocolCalls.{site_fault}
use Rattle.report_judged.proofs.protocol_call.do_form.Goals as goal

pub returns-in-Ok-clause-answered : goal.returns-in-Ok-clause-answered
returns-in-Ok-clause-answered g c file told =
    c.tell_at.ensures.answered file (c.in-Ok.ensures.contents_stay ∙ told) (c.in-Ok.ensures.site file told)

pub returns-in-Err-clause-answered : goal.returns-in-Err-clause-answered
returns-in-Err-clause-answered g c file told = (refl, c.in-Err.ensures.site file told)

pub returns-in-Err-clause-read : goal.returns-in-Err-clause-read
returns-in-Err-clause-read g c = λ fault. c.in-Err.ensures.cause (site_fault SiteTables c.in-Err.stop fault)
