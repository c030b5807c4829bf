use Rattle.std.proofs.Common.{◌≡◌, ◌++◌}
use Rattle.sig_types.specs.Words.{tabulate}
use Rattle.trace_told.specs.declared.columns.Column.TheVariants.{Timer}
use Rattle.trace_told.proofs.columns.add_timers.Given as goal

abbrev pub invariant-loop-t : goal.invariant-loop-t
invariant-loop-t l = l.columns.items ≡ l.fn.columns.items ++ tabulate Timer l.t
