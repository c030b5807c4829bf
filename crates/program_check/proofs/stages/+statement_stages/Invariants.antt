use Rattle.std.proofs.Common.{◌≡◌, ◌++◌, drop}
use Rattle.vap_ast.specs.Tree.{items_of}
use Rattle.program_check.specs.Stages.{items_led}
use Rattle.program_check.proofs.stages.+statement_stages.Given as goal

abbrev pub invariant-warn_of_items-loop-item : goal.invariant-warn_of_items-loop-item
invariant-warn_of_items-loop-item l =
    l.warned.items ++ items_led l.checked.names l.active (items_of (drop l.item-index l.items)) ≡ l.fn.warned.items
    ++ items_led l.checked.names l.active (items_of l.items)
