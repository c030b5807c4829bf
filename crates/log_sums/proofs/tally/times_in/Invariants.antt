use Rattle.std.proofs.Common.{◌≡◌, ◌≤◌, take}
use Rattle.log_sums.specs.Tallies.{times_in}
use Rattle.log_sums.proofs.tally.times_in.Given as goal

abbrev pub invariant-loop-item : goal.invariant-loop-item
invariant-loop-item g l = record {
  times : l.times ≡ times_in g.K.Key.code l.code (take l.item-index l.items);
  most : l.times ≤ l.item-index;
}
