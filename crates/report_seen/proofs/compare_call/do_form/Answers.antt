use Rattle.std.proofs.Common.{◌∙◌}
use Rattle.report_seen.specs.CompareForm.{asked_in}
use Rattle.report_seen.proofs.CompareCalls.{answered}
use Rattle.report_seen.proofs.compare_call.do_form.Goals as goal

pub returns-in-Ok-load-clause-answered : goal.returns-in-Ok-load-clause-answered
returns-in-Ok-load-clause-answered g c file told =
    answered (asked_in c.args.form.now) file c.tell.result _ _
    (rw (c.in-Ok.ensures.bytes file told, c.in-Ok-load.ensures.bytes file (c.in-Ok.ensures.contents_stay ∙ told)) at c.tell.ensures.told)
