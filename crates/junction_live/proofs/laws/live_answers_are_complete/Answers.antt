use Rattle.junction_live.proofs.Answering.{complete}
use Rattle.junction_live.proofs.laws.live_answers_are_complete.Goals as goal

pub returns : goal.returns
returns c = complete c.answers_are_right.ensures.once
