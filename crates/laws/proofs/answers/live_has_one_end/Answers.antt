use Rattle.laws.proofs.NetAndLive.{live_given, live_once}
use Rattle.laws.proofs.answers.live_has_one_end.Goals as goal

pub returns-clause-one : goal.returns-clause-one
returns-clause-one c = live_once c.answers_are_right.ensures.once

pub returns-clause-played : goal.returns-clause-played
returns-clause-played c = live_given c.answers_are_right.ensures.once
