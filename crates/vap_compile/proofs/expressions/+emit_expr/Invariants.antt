use Rattle.std.proofs.Common.{◌≡◌, ◌++◌, drop}
use Rattle.vap_ast.specs.Tree.{exprs_of}
use Rattle.vap_compile.specs.Layout.{exprs_code}
use Rattle.vap_compile.proofs.expressions.+emit_expr.Given as goal

abbrev pub invariant-emit_exprs-loop-arg : goal.invariant-emit_exprs-loop-arg
invariant-emit_exprs-loop-arg l =
    l.code.items ++ exprs_code l.checked.names (exprs_of (drop l.arg-index l.args)) ≡ l.fn.code.items
    ++ exprs_code l.checked.names (exprs_of l.args)
