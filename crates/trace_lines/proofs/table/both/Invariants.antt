use Rattle.std.proofs.Common.{◌≡◌, ◌≤◌, take}
use Rattle.std.specs.Prelude.{count_by}
use Rattle.trace_lines.specs.Table.{is_both}
use Rattle.trace_lines.proofs.table.both.Given as goal

abbrev pub invariant-loop-test : goal.invariant-loop-test
invariant-loop-test l = (l.both ≡ count_by is_both (take l.test-index l.tests)) × (l.both ≤ l.test-index)
