use Rattle.std.proofs.Common.{◌≡◌, ◌++◌, drop, length}
use Rattle.std.specs.Prelude.{All}
use Rattle.trace_watch.specs.Places.{IsWithin, statements_from, statements_in}
use Rattle.trace_watch.proofs.places.statements_in.Given as goal

abbrev pub invariant-loop-place : goal.invariant-loop-place
invariant-loop-place l = record {
  marks : l.marks.items ++ statements_from l.place l.behind_call (drop l.place l.instrs) ≡ statements_in l.instrs;
  within : All (IsWithin (length l.instrs)) l.marks.items;
}
