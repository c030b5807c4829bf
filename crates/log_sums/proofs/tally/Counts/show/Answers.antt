use Rattle.std.proofs.Common.{◌≡◌, ◌<◌, arith}
use Rattle.log_sums.specs.Spells.{begins, held, run}
use Rattle.log_sums.specs.Tallies.{came, stretch}
use Rattle.log_sums.proofs.Steps.{begins_next, run_most, run_next}
use Rattle.log_sums.proofs.tally.Counts.show.Goals as goal

pub returns : goal.returns
returns c = λ k n next small here is.
    let s = c.args.second in
    let x = c.args.self in
    let h = came k in
    let now = is.run_is in
    let few : x.run < 2147483648 = omega (arith, now, run_most h n) in
    let more = c.run_with-run.ensures few in
    let run_step = run_next h n s next in
    let begins_step = begins_next h n s next in
    let long = c.stretch.ensures small in
    let came_is : came k s ≡ c.came-holds.result = cc (c.came-holds.ensures, here) in
    let run_is : c.run_with-run.result ≡ run (came k) s = cc (more, run_step, now, came_is) in
    let begun_is : held (begins (came k)) s ≡ c.one_if.result = cc (c.one_if.ensures, c.begins.ensures, begins_step, now, came_is) in
    let stretch_is : stretch (came k) c.args.from s ≡ c.stretch.result = cc (long, run_is) in
    record {
      times_are = c.with_from.ensures k n next small here is.times_are;
      run_is = run_is;
      begun_are = c.with_from-2.ensures (held (begins (came k))) n next small begun_is is.begun_are;
      runs_are = c.with_from-3.ensures (stretch (came k) c.args.from) n next small stretch_is is.runs_are;
    }
