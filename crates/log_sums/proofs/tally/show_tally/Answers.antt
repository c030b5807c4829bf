use Rattle.std.proofs.Common.{◌≡◌}
use Rattle.log_sums.specs.Tallies.{times_of}
use Rattle.log_sums.proofs.tally.show_tally.Goals as goal

pub returns-clause-counts : goal.returns-clause-counts
returns-clause-counts g c = λ a n next small here is.
    let k = g.K.Key.code c.args.tally.key in
    let times : times_of g.K.Key.code a k c.args.second ≡ c.times_in-times.result = cc (c.times_in-times.ensures, c.code.ensures, here) in
    c.show.ensures (times_of g.K.Key.code a k) n next small times is
