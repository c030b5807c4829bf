use Rattle.std.proofs.Common.{refl, arith}
use Rattle.log_sums.specs.Groups.{greens_of}
use Rattle.log_sums.specs.ServeSums.{served_by, waited}
use Rattle.log_sums.specs.Series.{since}
use Rattle.log_sums.proofs.serve_sums.ServeSums.none.Goals as goal

pub returns : goal.returns
returns c = λ a f from.
    let none = c.none.ensures.zero (since from (served_by (greens_of a) f)) in
    let sum = none.sum in
    record {
      run_is = refl;
      served_is = refl;
      waiting_is = refl;
      in_green_is = refl;
      not_in_green_is = refl;
      per_green_are = none;
      waits_are = c.none-2.ensures.zero (since from (waited (greens_of a) f));
      in_green_fit = omega arith;
      not_in_green_fit = omega arith;
      per_green_fit = omega (arith, sum);
    }
