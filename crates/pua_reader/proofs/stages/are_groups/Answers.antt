use Rattle.std.proofs.Common.{sym, ◌∙◌}
use Rattle.pua_reader.specs.Groups.{has_name}
use Rattle.pua_reader.proofs.Texts.{all_texts}
use Rattle.pua_reader.proofs.stages.are_groups.Goals as goal

pub returns : goal.returns
returns c = c.all_groups.ensures ∙ sym (all_texts (has_name c.args.groups.now) c.args.words.now)
