use Rattle.std.proofs.Common.{◌≡◌, ◌<◌, arith}
use Rattle.log_sums.specs.Spells.{begins, held, over, run}
use Rattle.log_sums.proofs.Steps.{begins_next, over_next, run_most, run_next}
use Rattle.log_sums.proofs.spells.Spells.show.Goals as goal

pub returns : goal.returns
returns c = λ h n next small here is.
    let s = c.args.second in
    let x = c.args.self in
    let now = is.run_is in
    let few : x.run < 2147483648 = omega (arith, now, run_most h n) in
    let more = c.run_with.ensures few in
    let run_step = run_next h n s next in
    let begins_step = begins_next h n s next in
    let over_step = over_next h n s next in
    let run_is : c.run_with.result ≡ run h s = cc (more, run_step, now, here) in
    let held_is : held h s ≡ c.one_if.result = cc (c.one_if.ensures, here) in
    let begun_is : held (begins h) s ≡ c.one_if-2.result = cc (c.one_if-2.ensures, c.begins-begins.ensures, begins_step, now, here) in
    let over_is : over h s ≡ c.over_with.result = cc (c.over_with.ensures, over_step, now, here) in
    record {
      run_is = run_is;
      held_are = c.with_from.ensures (held h) n next small held_is is.held_are;
      begun_are = c.with_from-2.ensures (held (begins h)) n next small begun_is is.begun_are;
      over_are = c.with_from-3.ensures (over h) n next small over_is is.over_are;
    }
