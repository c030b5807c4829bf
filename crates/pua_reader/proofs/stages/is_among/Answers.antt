use Rattle.std.proofs.Common.{sym, ◌∙◌}
use Rattle.pua_reader.proofs.Texts.{stands_texts}
use Rattle.pua_reader.proofs.stages.is_among.Goals as goal

pub returns : goal.returns
returns c = c.any_is.ensures ∙ sym (stands_texts c.args.name.now c.args.words.now)
