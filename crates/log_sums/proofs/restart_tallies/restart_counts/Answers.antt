use Rattle.std.proofs.Common.{◌+◌}
use Rattle.log_sums.specs.Series.{since}
use Rattle.log_sums.specs.Spells.{begins, held}
use Rattle.log_sums.specs.Tallies.{came, stretch}
use Rattle.log_sums.proofs.NotYet.{not_yet}
use Rattle.log_sums.proofs.restart_tallies.restart_counts.Goals as goal

pub returns : goal.returns
returns c = λ k from n is. record {
  times_are = c.none.ensures.never (since (n + 1) k) n (not_yet k n);
  run_is = is.run_is;
  begun_are = c.none-2.ensures.never (since (n + 1) (held (begins (came k)))) n (not_yet (held (begins (came k))) n);
  runs_are = c.none-3.ensures.never (since (n + 1) (stretch (came k) (n + 1))) n (not_yet (stretch (came k) (n + 1)) n);
}
