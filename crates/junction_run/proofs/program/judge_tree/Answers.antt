use Rattle.junction_run.proofs.Texts.{treeless_text}
use Rattle.junction_run.proofs.program.judge_tree.Goals as goal

pub returns-in-Err-At-clause-refused : goal.returns-in-Err-At-clause-refused
returns-in-Err-At-clause-refused c = λ text has. treeless_text text c.args.tokens.now c.in-Err-At.line c.in-Err-At.why has
    (rw c.in-Err-At.field-0-is at c.in-Err-At.ensures.refused)
