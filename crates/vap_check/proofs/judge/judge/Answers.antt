use Rattle.std.proofs.Common.{◌∙◌, sym}
use Rattle.vap_ast.specs.Tree.{program_of}
use Rattle.vap_check.specs.Accepted.{wrong}
use Rattle.vap_check.specs.Findings.{findings}
use Rattle.vap_check.proofs.First.{first_is, none_is}
use Rattle.vap_check.proofs.judge.judge.Goals as goal

pub returns-in-Some : goal.returns-in-Some
returns-in-Some c =
    let f = c.in-Some.finding in
    wrong f.line f.why (first_is (findings (program_of c.args.program.now)) f (sym c.in_ok-judge_program.ensures ∙ c.in-Some.is))

pub judge_limits-requires-clause-clean : goal.judge_limits-requires-clause-clean
judge_limits-requires-clause-clean c =
    none_is (findings (program_of c.args.program.now)) (sym c.in_ok-judge_program.ensures ∙ c.in-None.is)
