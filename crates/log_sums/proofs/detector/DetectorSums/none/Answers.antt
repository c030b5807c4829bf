use Rattle.std.proofs.Common.{refl, arith}
use Rattle.log_sums.specs.Series.{since}
use Rattle.log_sums.specs.Detectors.{detected, occupied}
use Rattle.log_sums.proofs.detector.DetectorSums.none.Goals as goal

pub returns : goal.returns
returns c = λ fronts rears from. record {
  fronts_are = c.none.ensures.zero (since from fronts);
  fronts_so_far = refl;
  rears_so_far = refl;
  fronts_fit = omega arith;
  rears_fit = omega arith;
  occupied_are = c.none-2.ensures (occupied fronts rears) from;
  detected_are = c.none-3.ensures (detected fronts rears) from;
}
