use Rattle.std.proofs.Common.{◌≡◌, ◌++◌}
use Rattle.sig_types.specs.Words.{tabulate}
use Rattle.trace_told.specs.declared.columns.Column.TheVariants.{Variable}
use Rattle.trace_told.proofs.columns.add_variables.Given as goal

abbrev pub invariant-loop-v : goal.invariant-loop-v
invariant-loop-v l = l.columns.items ≡ l.fn.columns.items ++ tabulate Variable l.v
