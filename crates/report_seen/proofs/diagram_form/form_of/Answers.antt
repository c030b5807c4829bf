use Rattle.std.proofs.Common.{Global, string_bytes}
use Rattle.report_seen.proofs.Options.{three_words, two_words}
use Rattle.report_seen.proofs.diagram_form.form_of.Goals as goal

pub returns-in-len2-clause-form : goal.returns-in-len2-clause-form
returns-in-len2-clause-form c = two_words (string_bytes {Z = Global}) c.args.words.now c.in-len2.len_at_least c.in-len2.len_below

pub returns-in-len3-clause-form : goal.returns-in-len3-clause-form
returns-in-len3-clause-form c = three_words (string_bytes {Z = Global}) c.args.words.now c.in-len3.len_at_least c.in-len3.len_below
