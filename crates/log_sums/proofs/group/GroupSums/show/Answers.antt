use Rattle.std.proofs.Common.{◌≡◌}
use Rattle.log_sums.specs.Groups.{greens_of, reds_of}
use Rattle.log_sums.specs.Spells.{begins}
use Rattle.log_sums.proofs.Steps.{begins_next}
use Rattle.log_sums.proofs.group.GroupSums.show.Goals as goal

pub returns : goal.returns
returns c = λ a n next small here is.
    let s = c.args.second in
    let now = is.greens_are.run_is in
    let step = begins_next (greens_of a) n s next in
    let green_is : greens_of a s ≡ c.is_green-green.result = cc (c.is_green-green.ensures, here) in
    let red_is : reds_of a s ≡ c.is_red.result = cc (c.is_red.ensures, here) in
    let begins_is : begins (greens_of a) s ≡ c.begins.result = cc (c.begins.ensures, step, now, green_is) in
    record {
      greens_are = c.show.ensures (greens_of a) n next small green_is is.greens_are;
      reds_are = c.show-2.ensures (reds_of a) n next small red_is is.reds_are;
      cycles_are = c.show-3.ensures (begins (greens_of a)) n next small begins_is is.cycles_are;
    }
