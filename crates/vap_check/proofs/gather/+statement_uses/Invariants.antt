use Rattle.std.proofs.Common.{◌≡◌, drop}
use Rattle.vap_ast.specs.Tree.{items_of}
use Rattle.vap_check.specs.Names.{items_uses}
use Rattle.vap_check.specs.KeptNames.{of_kind}
use Rattle.vap_check.specs.UpTo.{up_to, with_names_up_to}
use Rattle.vap_check.proofs.gather.+statement_uses.Given as goal

abbrev pub invariant-note_items_uses-loop-item : goal.invariant-note_items_uses-loop-item
invariant-note_items_uses-loop-item l = with_names_up_to (up_to l.names)
    (of_kind l.known l.wanted (items_uses (items_of (drop l.item-index l.items)))) ≡ with_names_up_to (up_to l.fn.names)
    (of_kind l.known l.wanted (items_uses (items_of l.items)))
