use Rattle.laws.proofs.OneTrace.{trace_once}
use Rattle.laws.proofs.programs.trace_has_one_answer.Goals as goal

pub returns : goal.returns
returns c =
    trace_once c.one_program.ensures.one c.one_program.ensures.played c.answers_are_right.ensures.once c.one_answer.ensures.tokens
