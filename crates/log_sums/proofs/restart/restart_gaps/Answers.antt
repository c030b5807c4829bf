use Rattle.std.proofs.Common.{◌+◌}
use Rattle.log_sums.specs.Series.{since}
use Rattle.log_sums.specs.Spells.{age, gap}
use Rattle.log_sums.proofs.NotYet.{not_yet}
use Rattle.log_sums.proofs.restart.restart_gaps.Goals as goal

pub returns : goal.returns
returns c = λ h from n is. record {
  last_is = is.last_is;
  gaps_are = c.none.ensures.never (since (n + 1) (gap h)) n (not_yet (gap h) n);
  ages_are = c.none-2.ensures.never (since (n + 1) (age h)) n (not_yet (age h) n);
}
