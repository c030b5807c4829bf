use Rattle.laws.proofs.NetAndLive.{net_once}
use Rattle.laws.proofs.answers.net_has_one_answer.Goals as goal

pub returns : goal.returns
returns c = net_once c.net_answers_are_right.ensures.once
