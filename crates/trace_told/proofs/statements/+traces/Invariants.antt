use Rattle.std.proofs.Common.{◌≡◌, ◌++◌, drop}
use Rattle.vap_ast.specs.Tree.{items_of}
use Rattle.trace_told.specs.Statements.{items_traces}
use Rattle.trace_told.proofs.statements.+traces.Given as goal

abbrev pub invariant-add_items-loop-item : goal.invariant-add_items-loop-item
invariant-add_items-loop-item l =
    l.traces.items ++ items_traces (items_of (drop l.item-index l.items)) ≡ l.fn.traces.items ++ items_traces (items_of l.items)
