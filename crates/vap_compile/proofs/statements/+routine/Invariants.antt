use Rattle.std.proofs.Common.{◌≡◌, ◌+◌, ◌++◌, drop, length}
use Rattle.vap_ast.specs.Tree.{items_of}
use Rattle.vap_ast.specs.Sizes.{items_size}
use Rattle.vap_compile.specs.Layout.{items_code}
use Rattle.vap_compile.specs.Labels.{place_at}
use Rattle.vap_compile.proofs.statements.+routine.Given as goal

-- what is there and the rest of the items is the whole, and as long
abbrev pub invariant-emit_items-loop-item : goal.invariant-emit_items-loop-item
invariant-emit_items-loop-item l =
    (l.code.items ++ items_code l.checked.names (place_at l.labels) (length l.code.items)
    (items_of (drop l.item-index l.items)) ≡ l.fn.code.items ++ items_code l.checked.names
    (place_at l.labels) (length l.fn.code.items) (items_of l.items))
    × (length l.code.items + items_size (items_of (drop l.item-index l.items)) ≡ length
    l.fn.code.items + items_size (items_of l.items))
