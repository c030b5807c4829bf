use Rattle.std.proofs.Common.{◌≡◌, ◌≤◌, ◌*◌}
use Rattle.junction_calls.specs.Given.{sum_below}
use Rattle.junction_calls.proofs.commands.sum_of.Given as goal

abbrev pub invariant-loop-place : goal.invariant-loop-place
invariant-loop-place l = record {
  sum : l.sum ≡ sum_below l.groups l.place;
  few : l.sum ≤ 255 * l.place;
}
