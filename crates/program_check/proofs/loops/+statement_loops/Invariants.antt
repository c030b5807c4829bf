use Rattle.std.proofs.Common.{◌≡◌, ◌++◌, [], drop}
use Rattle.vap_ast.specs.Tree.{items_of}
use Rattle.program_check.specs.Loops.{items_loops}
use Rattle.program_check.proofs.loops.+statement_loops.Given as goal

abbrev pub invariant-warn_of_items-loop-item : goal.invariant-warn_of_items-loop-item
invariant-warn_of_items-loop-item l =
    l.warned.items ++ items_loops l.labels.keys (items_of (drop l.item-index l.items)) ≡ l.fn.warned.items
    ++ items_loops [] (items_of l.items)
