use Rattle.std.proofs.Common.{◌≡◌, ◌+◌, ◌<◌, ◌≤◌, arith}
use Rattle.std.specs.Prelude.{nat_le, ◌==◌, if◌then◌else◌}
use Rattle.log_sums.specs.Groups.{greens_of}
use Rattle.log_sums.specs.Series.{since}
use Rattle.log_sums.specs.ServeSums.{fronts_in, fronts_out, served, served_by, waited, waiting}
use Rattle.log_sums.specs.Spells.{run}
use Rattle.log_sums.proofs.Fits.{over_fits, sum_fits, where_false, where_true}
use Rattle.log_sums.proofs.Steps.{run_most, run_next, served_by_next, served_next, sum_next, waited_next, waiting_most, waiting_next}
use Rattle.log_sums.proofs.serve_sums.ServeSums.show.Goals as goal

pub returns : goal.returns
returns c = λ a f n next early few here there is.
    let s = c.args.second in
    let x = c.args.self in
    let from = c.args.from in
    let h = greens_of a in
    let small : s < 2147483648 = omega (arith, early) in
    let run_now = is.run_is in
    let served_now = is.served_is in
    let waiting_now = is.waiting_is in
    let green_is : h s ≡ c.is_green-green.result = cc (c.is_green-green.ensures, here) in
    let short : x.run < 2147483648 = omega (arith, small, next, run_now, run_most h n) in
    let brief : x.waiting < 2147483648 = omega (arith, small, next, waiting_now, waiting_most h f n) in
    let fit = is.per_green_fit in
    let room : x.served + c.args.fronts < 18446744073709551616 = omega (arith, fit, few, early, next) in
    let more : x.served < 9223372036854775808 = omega (arith, fit, early, next) in
    let over = c.served_by-over.ensures more in
    let run_is : c.run_with.result ≡ run h s = cc (c.run_with.ensures short, run_next h n s next, run_now, green_is) in
    let served_is : c.served_with.result ≡ served h f s = cc (c.served_with.ensures room, served_next h f n s next, served_now, green_is, there) in
    let waiting_is : c.waiting_with.result ≡ waiting h f s
    = cc (c.waiting_with.ensures brief, waiting_next h f n s next, waiting_now, green_is, there) in
    let in_is : since from (fronts_in h f) s ≡ c.long_counted.result = cc (c.long_counted.ensures, c.fronts_in.ensures, green_is, there) in
    let out_is : since from (fronts_out h f) s ≡ c.long_counted-2.result = cc (c.long_counted-2.ensures, c.fronts_out.ensures, green_is, there) in
    let over_is : since from (served_by h f) s ≡ c.long_counted-3.result
    = cc (c.long_counted-3.ensures, over, served_by_next h f n s next, run_now, served_now, green_is) in
    let waited_is : waited h f s ≡ c.waited.result = cc (c.waited.ensures, waited_next h f n s next, waiting_now, green_is) in
    let in_few : c.long_counted.result ≤ 274877906944
    = rw c.long_counted.ensures (where_true (nat_le from s) c.fronts_in.result 274877906944
    (rw c.fronts_in.ensures (where_true c.is_green-green.result c.args.fronts 274877906944 (omega (arith, few))))) in
    let out_few : c.long_counted-2.result ≤ 274877906944
    = rw c.long_counted-2.ensures (where_true (nat_le from s) c.fronts_out.result 274877906944
    (rw c.fronts_out.ensures (where_false c.is_green-green.result c.args.fronts 274877906944 (omega (arith, few))))) in
    let in_fit = is.in_green_fit in
    let out_fit = is.not_in_green_fit in
    let in_more : c.saturating_add.result ≡ x.in_green + c.long_counted.result = omega (arith, c.saturating_add.ensures, in_fit, in_few, early, next) in
    let out_more : c.saturating_add-2.result ≡ x.not_in_green + c.long_counted-2.result
    = omega (arith, c.saturating_add-2.ensures, out_fit, out_few, early, next) in
    let in_step = sum_next (since from (fronts_in h f)) n s next in
    let out_step = sum_next (since from (fronts_out h f)) n s next in
    let in_now = is.in_green_is in
    let out_now = is.not_in_green_is in
    let over_same : c.long_counted-3.result ≡ (if nat_le from s then (if c.is_green-green.result then 0 else (if x.run == 0 then 0 else x.served + 1)) else 0)
    = cc (c.long_counted-3.ensures, over) in
    let fits = over_fits c.is_green-green.result (x.run == 0) (nat_le from s) x.per_green.sum x.served c.args.fronts c.long_counted-3.result
    c.served_with.result n fit few over_same (c.served_with.ensures room) in
    let enough : x.per_green.sum + c.long_counted-3.result < 18446744073709551616 = omega (arith, fits, next, early) in
    let per_green = c.with.ensures (since from (served_by h f)) n next small enough over_is is.per_green_are in
    let sum_is = per_green.sum in
    let sum_now = is.per_green_are.sum in
    let sum_step = sum_next (since from (served_by h f)) n s next in
    let total : c.with.result.sum ≡ x.per_green.sum + c.long_counted-3.result = cc (sum_is, sum_step, sum_now, over_is) in
    record {
      run_is = run_is;
      served_is = served_is;
      waiting_is = waiting_is;
      in_green_is = cc (in_more, in_step, in_now, in_is);
      not_in_green_is = cc (out_more, out_step, out_now, out_is);
      per_green_are = per_green;
      waits_are = c.with_from.ensures (waited h f) n next small waited_is is.waits_are;
      in_green_fit = rw next (sum_fits x.in_green c.long_counted.result c.saturating_add.result n in_fit in_few in_more);
      not_in_green_fit = rw next (sum_fits x.not_in_green c.long_counted-2.result c.saturating_add-2.result n out_fit out_few out_more);
      per_green_fit = omega (arith, total, fits, next);
    }
