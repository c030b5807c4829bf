use Rattle.junction_run.proofs.Texts.{stuck_text}
use Rattle.junction_run.proofs.program.judge_tokens.Goals as goal

pub returns-in-Err-At-clause-refused : goal.returns-in-Err-At-clause-refused
returns-in-Err-At-clause-refused c = stuck_text c.args.text.now c.in-Err-At.line c.in-Err-At.why (rw c.in-Err-At.field-0-is at c.in-Err-At.ensures.refused)
