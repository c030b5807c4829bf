use Rattle.std.proofs.Common.{◌≡◌, ◌+◌, ◌≤◌, drop}
use Rattle.std.specs.Prelude.{min}
use Rattle.vap_ast.specs.Sizes.{items_size}
use Rattle.vap_ast.specs.Tree.{items_of}
use Rattle.vap_ast.proofs.sizes.+stmt_size.Given as goal

abbrev pub invariant-items_size-loop-item : goal.invariant-items_size-loop-item
invariant-items_size-loop-item l = (min (l.total + items_size (items_of (drop l.item-index l.items))) 65536 ≡ min (items_size (items_of l.items)) 65536) × (l.total ≤ 65536)
