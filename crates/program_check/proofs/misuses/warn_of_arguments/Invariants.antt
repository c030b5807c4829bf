use Rattle.std.proofs.Common.{◌≡◌, ◌++◌, drop, map}
use Rattle.vap_ast.specs.Tree.{exprs_of}
use Rattle.program_check.specs.Misuses.{arguments_told}
use Rattle.program_check.proofs.misuses.warn_of_arguments.Given as goal

abbrev pub invariant-loop-arg : goal.invariant-loop-arg
invariant-loop-arg l =
    l.warned.items ++ arguments_told l.checked.names l.plan (map (λ v. v.items) l.stages) l.line l.kind (exprs_of (drop l.arg-index l.args))
    ≡ l.fn.warned.items ++ arguments_told l.checked.names l.plan (map (λ v. v.items) l.stages) l.line l.kind (exprs_of l.args)
