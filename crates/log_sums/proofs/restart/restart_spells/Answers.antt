use Rattle.std.proofs.Common.{◌+◌}
use Rattle.log_sums.specs.Series.{since}
use Rattle.log_sums.specs.Spells.{begins, held, over}
use Rattle.log_sums.proofs.NotYet.{not_yet}
use Rattle.log_sums.proofs.restart.restart_spells.Goals as goal

pub returns : goal.returns
returns c = λ h from n is. record {
  run_is = is.run_is;
  held_are = c.none.ensures.never (since (n + 1) (held h)) n (not_yet (held h) n);
  begun_are = c.none-2.ensures.never (since (n + 1) (held (begins h))) n (not_yet (held (begins h)) n);
  over_are = c.none-3.ensures.never (since (n + 1) (over h)) n (not_yet (over h) n);
}
