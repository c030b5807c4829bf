use Rattle.vap_ast.specs.Tree.{program_of}
use Rattle.junction_run.proofs.Agree.{runs_checked}
use Rattle.junction_run.proofs.program.judge_program.Goals as goal

pub returns-in-Ok-compile-clause-text : goal.returns-in-Ok-compile-clause-text
returns-in-Ok-compile-clause-text c = (
  program_of c.in-Ok.checked.tree,
  c.in-Ok.ensures.text.0,
  runs_checked c.in-Ok.checked c.in-Ok-compile.code c.in-Ok.ensures.text.1 c.in-Ok-compile.ensures.means c.in-Ok-compile.ensures.numbers,
)
