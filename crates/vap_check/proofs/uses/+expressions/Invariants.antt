use Rattle.std.proofs.Common.{◌≡◌, drop}
use Rattle.vap_ast.specs.Tree.{exprs_of}
use Rattle.vap_check.specs.FirstFinding.{first_of_all}
use Rattle.vap_check.specs.Findings.{exprs_findings}
use Rattle.vap_check.specs.KeptNames.{kind_in}
use Rattle.vap_check.proofs.uses.+expressions.Given as goal

abbrev pub invariant-judge_exprs-loop-arg : goal.invariant-judge_exprs-loop-arg
invariant-judge_exprs-loop-arg l = first_of_all l.first (exprs_findings (kind_in l.known) l.line (exprs_of (drop l.arg-index l.args))) ≡ first_of_all
    l.fn.first (exprs_findings (kind_in l.known) l.line (exprs_of l.args))
