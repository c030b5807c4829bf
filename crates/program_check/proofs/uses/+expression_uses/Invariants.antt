use Rattle.std.proofs.Common.{◌≡◌, ◌++◌, drop}
use Rattle.std.specs.Prelude.{filter}
use Rattle.vap_ast.specs.Tree.{exprs_of}
use Rattle.program_check.specs.Names.{exprs_uses, is_lacking, site_as}
use Rattle.program_check.proofs.uses.+expression_uses.Given as goal

abbrev pub invariant-note_exprs-loop-arg : goal.invariant-note_exprs-loop-arg
invariant-note_exprs-loop-arg l =
    l.uses.items ++ filter (is_lacking l.checked.names l.wanted.sort l.others.keys)
    (exprs_uses (site_as l.wanted.how l.line) (exprs_of (drop l.arg-index l.args)))
    ≡ l.fn.uses.items ++ filter (is_lacking l.checked.names l.wanted.sort l.others.keys)
    (exprs_uses (site_as l.wanted.how l.line) (exprs_of l.args))
