use Rattle.std.proofs.Common.{sym, ◌∙◌}
use Rattle.sig_types.specs.Text.{is_name}
use Rattle.pua_reader.proofs.Texts.{all_texts}
use Rattle.pua_reader.proofs.stages.are_names.Goals as goal

pub returns : goal.returns
returns c = c.all_names.ensures ∙ sym (all_texts is_name c.args.words.now)
