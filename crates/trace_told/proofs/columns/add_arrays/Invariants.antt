use Rattle.std.proofs.Common.{◌≡◌, ◌++◌, drop, map}
use Rattle.vap_ast.specs.Tree.{array_of}
use Rattle.trace_told.specs.Columns.{array_columns}
use Rattle.trace_told.proofs.columns.add_arrays.Given as goal

abbrev pub invariant-loop-a : goal.invariant-loop-a
invariant-loop-a l =
    l.columns.items ++ array_columns l.a (map array_of (drop l.a l.arrays)) ≡ l.fn.columns.items ++ array_columns 0 (map array_of l.arrays)
