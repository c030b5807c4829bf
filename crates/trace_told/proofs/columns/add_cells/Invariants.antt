use Rattle.std.proofs.Common.{◌≡◌, ◌++◌}
use Rattle.sig_types.specs.Words.{tabulate}
use Rattle.trace_told.specs.Columns.{cell_behind}
use Rattle.trace_told.proofs.columns.add_cells.Given as goal

abbrev pub invariant-loop-k : goal.invariant-loop-k
invariant-loop-k l = l.columns.items ≡ l.fn.columns.items ++ tabulate (cell_behind l.array) l.k
