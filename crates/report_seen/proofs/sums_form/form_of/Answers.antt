use Rattle.std.proofs.Common.{Global, string_bytes, sym}
use Rattle.report_seen.proofs.FewServed.{few_words}
use Rattle.report_seen.proofs.sums_form.form_of.Goals as goal

pub returns-in_default-clause-form : goal.returns-in_default-clause-form
returns-in_default-clause-form c = sym (few_words (string_bytes {Z = Global}) c.args.words.now c.in_default.len_below)
