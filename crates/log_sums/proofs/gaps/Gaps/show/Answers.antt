use Rattle.std.proofs.Common.{◌≡◌}
use Rattle.log_sums.specs.Spells.{age, gap, last_to}
use Rattle.log_sums.proofs.Steps.{gap_next, last_next}
use Rattle.log_sums.proofs.gaps.Gaps.show.Goals as goal

pub returns : goal.returns
returns c = λ h n next small here is.
    let s = c.args.second in
    let now = is.last_is in
    let last_step = last_next h n s next in
    let gap_step = gap_next h n s next in
    let aged = c.age_of.ensures small in
    let last_is : c.last_with-last.result ≡ last_to h s = cc (c.last_with-last.ensures, last_step, now, here) in
    let gap_is : gap h s ≡ c.gap_with.result = cc (c.gap_with.ensures, gap_step, now, here) in
    let age_is : age h s ≡ c.age_of.result = cc (aged, last_is) in
    record {
      last_is = last_is;
      gaps_are = c.with_from.ensures (gap h) n next small gap_is is.gaps_are;
      ages_are = c.with_from-2.ensures (age h) n next small age_is is.ages_are;
    }
