use Rattle.std.proofs.Common.{◌≡◌, drop}
use Rattle.vap_ast.specs.Tree.{exprs_of}
use Rattle.vap_check.specs.Names.{with_names}
use Rattle.program_check.specs.Names.{exprs_uses, name_as}
use Rattle.program_check.proofs.named.+expression_names.Given as goal

abbrev pub invariant-note_exprs-loop-arg : goal.invariant-note_exprs-loop-arg
invariant-note_exprs-loop-arg l =
    with_names l.names.keys (exprs_uses (name_as l.wanted) (exprs_of (drop l.arg-index l.args)))
    ≡ with_names l.fn.names.keys (exprs_uses (name_as l.wanted) (exprs_of l.args))
