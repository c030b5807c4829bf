use Rattle.std.proofs.Common.{refl}
use Rattle.log_sums.specs.Series.{since}
use Rattle.log_sums.specs.Spells.{begins, held, over}
use Rattle.log_sums.proofs.spells.Spells.none.Goals as goal

pub returns : goal.returns
returns c = λ h from. record {
  run_is = refl;
  held_are = c.none.ensures.zero (since from (held h));
  begun_are = c.none-2.ensures.zero (since from (held (begins h)));
  over_are = c.none-3.ensures.zero (since from (over h));
}
