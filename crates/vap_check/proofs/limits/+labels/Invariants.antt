use Rattle.std.proofs.Common.{◌≡◌, ◌+◌, ◌≤◌, length, drop}
use Rattle.std.specs.Prelude.{min}
use Rattle.vap_ast.specs.Tree.{items_of}
use Rattle.vap_check.specs.Names.{items_labels}
use Rattle.vap_check.proofs.limits.+labels.Given as goal

abbrev pub invariant-count_items_labels-loop-item : goal.invariant-count_items_labels-loop-item
invariant-count_items_labels-loop-item l =
    (min (l.total + length (items_labels (items_of (drop l.item-index l.items)))) 65536 ≡ min (length (items_labels (items_of l.items))) 65536)
    × (l.total ≤ 65536)
