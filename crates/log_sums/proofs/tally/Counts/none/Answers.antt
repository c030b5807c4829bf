use Rattle.std.proofs.Common.{sym}
use Rattle.log_sums.specs.Series.{since}
use Rattle.log_sums.specs.Spells.{begins, held}
use Rattle.log_sums.specs.Tallies.{came, stretch}
use Rattle.log_sums.proofs.Never.{begun_never, run_never, since_never, stretch_never}
use Rattle.log_sums.proofs.tally.Counts.none.Goals as goal

pub returns : goal.returns
returns c = λ k from n never. record {
  times_are = c.none.ensures.never (since from k) n (since_never from k n never);
  run_is = sym (run_never k n never);
  begun_are = c.none-2.ensures.never (since from (held (begins (came k)))) n (since_never from (held (begins (came k))) n (begun_never k n never));
  runs_are = c.none-3.ensures.never (since from (stretch (came k) from)) n (since_never from (stretch (came k) from) n (stretch_never k from n never));
}
