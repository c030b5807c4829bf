use Rattle.std.proofs.Common.{Global, string_bytes}
use Rattle.report_seen.proofs.Options.{lone_word, many_words}
use Rattle.report_seen.proofs.look.with_begin.Goals as goal

pub returns-in-len1-clause-look : goal.returns-in-len1-clause-look
returns-in-len1-clause-look c =
    lone_word (string_bytes {Z = Global}) c.args.strip c.args.title.now c.args.words.now c.in-len1.len_at_least c.in-len1.len_below

pub returns-in-len3-up-clause-look : goal.returns-in-len3-up-clause-look
returns-in-len3-up-clause-look c = many_words (string_bytes {Z = Global}) c.args.strip c.args.title.now c.args.words.now c.in-len3-up.len_at_least
