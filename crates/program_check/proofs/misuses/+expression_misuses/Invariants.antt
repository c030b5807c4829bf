use Rattle.std.proofs.Common.{◌≡◌, ◌++◌, drop, map}
use Rattle.vap_ast.specs.Tree.{exprs_of, program_of}
use Rattle.program_check.specs.Misuses.{exprs_misuses}
use Rattle.program_check.proofs.misuses.+expression_misuses.Given as goal

abbrev pub invariant-warn_of_exprs-loop-arg : goal.invariant-warn_of_exprs-loop-arg
invariant-warn_of_exprs-loop-arg l =
    l.warned.items ++ exprs_misuses l.checked.names (program_of l.checked.tree).arrays l.plan (map (λ v. v.items) l.stages) l.line
    (exprs_of (drop l.arg-index l.args))
    ≡ l.fn.warned.items ++ exprs_misuses l.checked.names (program_of l.checked.tree).arrays l.plan (map (λ v. v.items) l.stages) l.line
    (exprs_of l.args)
