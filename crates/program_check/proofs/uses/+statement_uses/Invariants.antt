use Rattle.std.proofs.Common.{◌≡◌, ◌++◌, drop}
use Rattle.std.specs.Prelude.{filter}
use Rattle.vap_ast.specs.Tree.{items_of}
use Rattle.program_check.specs.Names.{is_lacking, items_uses, site_as}
use Rattle.program_check.proofs.uses.+statement_uses.Given as goal

abbrev pub invariant-note_items-loop-item : goal.invariant-note_items-loop-item
invariant-note_items-loop-item l =
    l.uses.items ++ filter (is_lacking l.checked.names l.wanted.sort l.others.keys)
    (items_uses (site_as l.wanted.how) (items_of (drop l.item-index l.items)))
    ≡ l.fn.uses.items ++ filter (is_lacking l.checked.names l.wanted.sort l.others.keys)
    (items_uses (site_as l.wanted.how) (items_of l.items))
