use Rattle.std.proofs.Common.{◌≡◌, drop}
use Rattle.vap_ast.specs.Tree.{exprs_of}
use Rattle.vap_check.specs.Names.{exprs_uses}
use Rattle.vap_check.specs.KeptNames.{of_kind}
use Rattle.vap_check.specs.UpTo.{up_to, with_names_up_to}
use Rattle.vap_check.proofs.gather.+expression_uses.Given as goal

abbrev pub invariant-note_exprs_uses-loop-arg : goal.invariant-note_exprs_uses-loop-arg
invariant-note_exprs_uses-loop-arg l = with_names_up_to (up_to l.names) (of_kind l.known l.wanted (exprs_uses (exprs_of (drop l.arg-index l.args))))
    ≡ with_names_up_to (up_to l.fn.names) (of_kind l.known l.wanted (exprs_uses (exprs_of l.args)))
