use Rattle.vap_ast.specs.Tree.{program_of}
use Rattle.junction_run.specs.Programs.{ProgramIs}
use Rattle.junction_run.proofs.program.check_tree.Goals as goal

pub returns-in-Err-At-clause-refused : goal.returns-in-Err-At-clause-refused
returns-in-Err-At-clause-refused c = λ text tokens has accepts.
    ProgramIs.unchecked tokens (program_of c.args.program) c.in-Err-At.line c.in-Err-At.why has accepts
    (rw c.in-Err-At.field-0-is at c.in-Err-At.ensures.refused)
