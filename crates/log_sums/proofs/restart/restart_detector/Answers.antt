use Rattle.std.proofs.Common.{◌+◌}
use Rattle.log_sums.specs.Detectors.{detected, occupied}
use Rattle.log_sums.specs.Series.{since}
use Rattle.log_sums.proofs.NotYet.{not_yet}
use Rattle.log_sums.proofs.restart.restart_detector.Goals as goal

pub returns : goal.returns
returns c = λ f r from n is. record {
  fronts_are = c.none.ensures.never (since (n + 1) f) n (not_yet f n);
  fronts_so_far = is.fronts_so_far;
  rears_so_far = is.rears_so_far;
  fronts_fit = is.fronts_fit;
  rears_fit = is.rears_fit;
  occupied_are = c.restart_spells.ensures (occupied f r) from n is.occupied_are;
  detected_are = c.restart_gaps.ensures (detected f r) from n is.detected_are;
}
