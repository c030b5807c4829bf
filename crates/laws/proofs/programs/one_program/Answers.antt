use Rattle.laws.proofs.OneProgram.{is_played, one_given}
use Rattle.laws.proofs.programs.one_program.Goals as goal

pub returns-clause-one : goal.returns-clause-one
returns-clause-one c = one_given c.answers_are_right.ensures.once

pub returns-clause-played : goal.returns-clause-played
returns-clause-played c = is_played
