use Rattle.std.proofs.Common.{◌≡◌, ◌++◌, drop}
use Rattle.std.specs.Prelude.{filter}
use Rattle.trace_told.specs.Named.{is_meant}
use Rattle.trace_told.proofs.named.add_meant.Given as goal

abbrev pub invariant-loop-column : goal.invariant-loop-column
invariant-loop-column l =
    l.chosen.items ++ filter (is_meant l.meaning) (drop l.column-index l.columns) ≡ l.fn.chosen.items ++ filter (is_meant l.meaning) l.columns
