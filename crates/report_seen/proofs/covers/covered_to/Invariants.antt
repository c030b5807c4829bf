use Rattle.std.proofs.Common.{◌≡◌, ◌≤◌}
use Rattle.report_seen.specs.Letters.{covered_to}
use Rattle.report_seen.proofs.covers.covered_to.Given as goal

abbrev pub invariant-loop-place : goal.invariant-loop-place
invariant-loop-place l = record {
  row : l.filled ≡ covered_to l.block l.fn.row l.second l.place;
  end : l.filled.end ≤ 60;
}
