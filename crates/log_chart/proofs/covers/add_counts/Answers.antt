use Rattle.std.proofs.Common.{◌≡◌, ◌+◌, arith, rules}
use Rattle.log_sums.proofs.Steps.{sum_next}
use Rattle.log_sums.specs.Series.{sum_to}
use Rattle.log_chart.proofs.covers.add_counts.Goals as goal

pub returns-clause-counts : goal.returns-clause-counts
returns-clause-counts c = λ f r n next small here there is.
    let s = c.args.second in
    let x = c.args.cover.now in
    let fit = is.fronts_fit in
    let rears_fit = is.rears_fit in
    let f_more : c.saturating_add-cover.result ≡ x.fronts + c.args.fronts = search rules in
    let r_more : c.saturating_add-cover-2.result ≡ x.rears + c.args.rears = search rules in
    let f_step = sum_next f n s next in
    let r_step = sum_next r n s next in
    let f_old = is.fronts_are in
    let r_old = is.rears_are in
    let f_is : c.saturating_add-cover.result ≡ sum_to f s = cc (f_more, f_step, f_old, here) in
    let r_is : c.saturating_add-cover-2.result ≡ sum_to r s = cc (r_more, r_step, r_old, there) in
    record {
      fronts_are = f_is;
      rears_are = r_is;
      fronts_fit = omega (arith, f_more, fit, next);
      rears_fit = omega (arith, r_more, rears_fit, next);
    }
