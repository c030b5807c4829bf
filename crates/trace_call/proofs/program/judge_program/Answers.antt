use Rattle.junction_run.proofs.Agree.{runs_checked}
use Rattle.trace_call.proofs.Taken.{code_is}
use Rattle.trace_call.proofs.program.judge_program.Goals as goal

pub returns-in-Ok-compile-clause-text : goal.returns-in-Ok-compile-clause-text
returns-in-Ok-compile-clause-text c = record {
  program = c.in-Ok.ensures.text.0;
  value = c.in-Ok.ensures.text.1;
  runs = runs_checked c.in-Ok.checked c.in-Ok-compile.code c.in-Ok.ensures.text.1 c.in-Ok-compile.ensures.means c.in-Ok-compile.ensures.numbers;
  code_is = code_is c.in-Ok.checked c.in-Ok-compile.code c.in-Ok.ensures.text.1 c.in-Ok-compile.ensures.layout;
}
