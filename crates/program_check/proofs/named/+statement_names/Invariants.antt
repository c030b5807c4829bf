use Rattle.std.proofs.Common.{◌≡◌, drop}
use Rattle.vap_ast.specs.Tree.{items_of}
use Rattle.vap_check.specs.Names.{with_names}
use Rattle.program_check.specs.Names.{items_uses, name_as}
use Rattle.program_check.proofs.named.+statement_names.Given as goal

abbrev pub invariant-note_items-loop-item : goal.invariant-note_items-loop-item
invariant-note_items-loop-item l =
    with_names l.names.keys (items_uses (λ line. name_as l.wanted) (items_of (drop l.item-index l.items)))
    ≡ with_names l.fn.names.keys (items_uses (λ line. name_as l.wanted) (items_of l.items))
