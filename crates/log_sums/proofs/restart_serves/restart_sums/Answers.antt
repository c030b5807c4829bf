use Rattle.std.proofs.Common.{◌+◌, ◌∙◌, arith, sym}
use Rattle.log_sums.specs.Groups.{greens_of}
use Rattle.log_sums.specs.ServeSums.{fronts_in, fronts_out, served_by, waited}
use Rattle.log_sums.specs.Series.{since}
use Rattle.log_sums.proofs.NotYet.{not_yet}
use Rattle.log_sums.proofs.restart_serves.restart_sums.Goals as goal

pub returns : goal.returns
returns c = λ a f from n is.
    let h = greens_of a in
    let fit = is.per_green_fit in
    let none = c.none.ensures.zero f in
    let zero = none.sum in
    let in_none = c.none.ensures.never (since (n + 1) (fronts_in h f)) n (not_yet (fronts_in h f) n) in
    let out_none = c.none.ensures.never (since (n + 1) (fronts_out h f)) n (not_yet (fronts_out h f) n) in
    record {
      run_is = is.run_is;
      served_is = is.served_is;
      waiting_is = is.waiting_is;
      in_green_is = sym zero ∙ in_none.sum;
      not_in_green_is = sym zero ∙ out_none.sum;
      per_green_are = c.none.ensures.never (since (n + 1) (served_by h f)) n (not_yet (served_by h f) n);
      waits_are = c.none-2.ensures.never (since (n + 1) (waited h f)) n (not_yet (waited h f) n);
      in_green_fit = omega arith;
      not_in_green_fit = omega arith;
      per_green_fit = omega (arith, zero, fit);
    }
