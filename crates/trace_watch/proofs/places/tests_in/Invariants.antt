use Rattle.std.proofs.Common.{◌≡◌, ◌++◌, drop, length}
use Rattle.std.specs.Prelude.{All}
use Rattle.trace_watch.specs.Places.{IsWithin, tests_from, tests_in}
use Rattle.trace_watch.proofs.places.tests_in.Given as goal

abbrev pub invariant-loop-place : goal.invariant-loop-place
invariant-loop-place l = record {
  marks : l.marks.items ++ tests_from l.place l.line (drop l.place l.instrs) ≡ tests_in l.instrs;
  within : All (IsWithin (length l.instrs)) l.marks.items;
}
