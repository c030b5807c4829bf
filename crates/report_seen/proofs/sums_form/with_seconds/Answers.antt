use Rattle.std.proofs.Common.{◌∙◌, Global, string_bytes, sym}
use Rattle.report_seen.proofs.FewServed.{few_seconds}
use Rattle.report_seen.proofs.sums_form.with_seconds.Goals as goal

pub returns-in_default-clause-form : goal.returns-in_default-clause-form
returns-in_default-clause-form c =
    c.with_each.ensures.form ∙ sym (few_seconds (string_bytes {Z = Global}) c.args.log.now c.args.words.now c.in_default.len_below)
