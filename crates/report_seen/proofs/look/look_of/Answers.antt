use Rattle.std.proofs.Common.{◌∙◌, Global, string_bytes, sym}
use Rattle.report_seen.proofs.Options.{few_strips}
use Rattle.report_seen.proofs.look.look_of.Goals as goal

pub returns-in_default-clause-look : goal.returns-in_default-clause-look
returns-in_default-clause-look c =
    c.with_title.ensures.look ∙ sym (few_strips (string_bytes {Z = Global}) c.args.words.now c.in_default.len_below)
