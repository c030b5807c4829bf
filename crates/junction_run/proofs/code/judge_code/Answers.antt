use Rattle.vap_code.specs.Codes.{code_in}
use Rattle.junction_run.specs.Codes.{CodeIs}
use Rattle.junction_run.proofs.Texts.{verified_text}
use Rattle.junction_run.proofs.code.judge_code.Goals as goal

pub returns-in-Ok-clause-text : goal.returns-in-Ok-clause-text
returns-in-Ok-clause-text c =
    verified_text c.verify_code.result c.args.text.now (code_in c.in-Ok.code) c.in-Ok.ensures.code c.verify_code.ensures.accepted
    (c.verify_code.ensures.refused c.args.text.now c.in-Ok.ensures.code)

pub returns-in-Err-At-clause-text : goal.returns-in-Err-At-clause-text
returns-in-Err-At-clause-text c =
    rw c.in-Err-At.field-0-is (CodeIs.no_code c.in-Err-At.line c.in-Err-At.why (rw c.in-Err-At.field-0-is at c.in-Err-At.ensures.code))
