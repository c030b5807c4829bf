use Rattle.std.proofs.Common.{◌≡◌, ◌++◌, drop}
use Rattle.std.specs.Prelude.{filter}
use Rattle.vap_ast.specs.Tree.{program_of}
use Rattle.trace_told.specs.Columns.{is_named}
use Rattle.trace_told.proofs.choice.add_named.Given as goal

abbrev pub invariant-loop-column : goal.invariant-loop-column
invariant-loop-column l =
    l.chosen.items ++ filter (is_named (program_of l.checked.tree) l.bytes) (drop l.column-index l.columns)
    ≡ l.fn.chosen.items ++ filter (is_named (program_of l.checked.tree) l.bytes) l.columns
