use Rattle.junction_live.proofs.Texts.{text_is_log}
use Rattle.junction_live.proofs.laws.without_watchers_there_is_the_log.Goals as goal

pub returns : goal.returns
returns c = text_is_log
