use Rattle.std.proofs.Common.{◌∙◌, Global, string_bytes, sym}
use Rattle.report_seen.proofs.Options.{few_titles}
use Rattle.report_seen.proofs.look.with_title.Goals as goal

pub returns-in_default-clause-look : goal.returns-in_default-clause-look
returns-in_default-clause-look c =
    c.with_begin.ensures.look ∙ sym (few_titles (string_bytes {Z = Global}) c.args.strip c.args.words.now c.in_default.len_below)
