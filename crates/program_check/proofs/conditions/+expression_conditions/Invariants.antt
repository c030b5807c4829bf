use Rattle.std.proofs.Common.{◌≡◌, ◌++◌, drop}
use Rattle.vap_ast.specs.Tree.{exprs_of}
use Rattle.program_check.specs.Conditions.{exprs_told}
use Rattle.program_check.proofs.conditions.+expression_conditions.Given as goal

abbrev pub invariant-warn_of_exprs-loop-arg : goal.invariant-warn_of_exprs-loop-arg
invariant-warn_of_exprs-loop-arg l =
    l.warned.items ++ exprs_told l.checked.names l.line (exprs_of (drop l.arg-index l.args)) ≡ l.fn.warned.items
    ++ exprs_told l.checked.names l.line (exprs_of l.args)
