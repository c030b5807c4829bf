use Rattle.std.proofs.Common.{◌∙◌, Global, string_bytes, sym}
use Rattle.report_seen.proofs.FewServed.{few_parts}
use Rattle.report_seen.proofs.sums_form.with_each.Goals as goal

pub returns-in_default-clause-form : goal.returns-in_default-clause-form
returns-in_default-clause-form c =
    c.with_csv.ensures.form ∙ sym (few_parts (string_bytes {Z = Global}) c.args.log.now c.args.seconds c.args.words.now c.in_default.len_below)
