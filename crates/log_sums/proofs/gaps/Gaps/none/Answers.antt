use Rattle.std.proofs.Common.{refl}
use Rattle.log_sums.specs.Series.{since}
use Rattle.log_sums.specs.Spells.{age, gap}
use Rattle.log_sums.proofs.gaps.Gaps.none.Goals as goal

pub returns : goal.returns
returns c = λ h from. record {
  last_is = refl;
  gaps_are = c.none.ensures.zero (since from (gap h));
  ages_are = c.none-2.ensures.zero (since from (age h));
}
