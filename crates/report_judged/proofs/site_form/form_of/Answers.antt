use Rattle.std.proofs.Common.{Global, string_bytes}
use Rattle.report_judged.proofs.FewStages.{few_words}
use Rattle.report_judged.proofs.site_form.form_of.Goals as goal

pub returns-in_default-clause-form : goal.returns-in_default-clause-form
returns-in_default-clause-form c = few_words (string_bytes {Z = Global}) c.args.words.now c.in_default.len_below
