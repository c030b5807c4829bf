use Rattle.std.proofs.Common.{◌≡◌, ◌*◌, ◌≤◌}
use Rattle.log_sums.proofs.Serving.{fronts_to}
use Rattle.log_sums.proofs.serves.fronts_at.Given as goal

abbrev pub invariant-loop-place : goal.invariant-loop-place
invariant-loop-place l = record {
  sum : l.sum ≡ fronts_to l.detectors l.frame l.place;
  most : l.sum ≤ l.place * 4294967295;
}
