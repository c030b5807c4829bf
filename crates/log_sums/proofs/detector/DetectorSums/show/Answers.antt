use Rattle.std.proofs.Common.{◌≡◌, ◌+◌, arith, rules}
use Rattle.log_sums.specs.Detectors.{detected, occupied}
use Rattle.log_sums.specs.Series.{sum_to}
use Rattle.log_sums.proofs.Steps.{sum_next}
use Rattle.log_sums.proofs.detector.DetectorSums.show.Goals as goal

pub returns : goal.returns
returns c = λ f r n next small here there is.
    let s = c.args.second in
    let x = c.args.self in
    let fit = is.fronts_fit in
    let rears_fit = is.rears_fit in
    let f_more : c.saturating_add-fronts_so_far.result ≡ x.fronts_so_far + c.args.fronts = search rules in
    let r_more : c.saturating_add-rears_so_far.result ≡ x.rears_so_far + c.args.rears = search rules in
    let f_step = sum_next f n s next in
    let r_step = sum_next r n s next in
    let f_old = is.fronts_so_far in
    let r_old = is.rears_so_far in
    let f_is : c.saturating_add-fronts_so_far.result ≡ sum_to f s = cc (f_more, f_step, f_old, here) in
    let r_is : c.saturating_add-rears_so_far.result ≡ sum_to r s = cc (r_more, r_step, r_old, there) in
    let occupied_is : occupied f r s ≡ c.is_occupied-occupied.result = cc (c.is_occupied-occupied.ensures, f_is, r_is) in
    let detected_is : detected f r s ≡ c.is_detected-detected.result = cc (c.is_detected-detected.ensures, occupied_is, here) in
    record {
      fronts_are = c.with_from.ensures f n next small here is.fronts_are;
      fronts_so_far = f_is;
      rears_so_far = r_is;
      fronts_fit = omega (arith, f_more, fit, next);
      rears_fit = omega (arith, r_more, rears_fit, next);
      occupied_are = c.show.ensures (occupied f r) n next small occupied_is is.occupied_are;
      detected_are = c.show-2.ensures (detected f r) n next small detected_is is.detected_are;
    }
