use Rattle.std.proofs.Common.{◌≡◌, ◌≤◌, ◌++◌, length, take}
use Rattle.report_seen.specs.Gathered.{fronts_from}
use Rattle.report_seen.proofs.gathering.add_fronts.Given as goal

abbrev pub invariant-loop-place : goal.invariant-loop-place
invariant-loop-place l = record {
  put : l.fronts.items ≡ l.fn.fronts.items ++ fronts_from l.second 1 (take l.place l.frame);
  size : 1 ≤ l.place → length l.frame ≡ 64;
}
