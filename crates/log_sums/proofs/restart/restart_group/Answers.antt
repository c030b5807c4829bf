use Rattle.log_sums.specs.Groups.{greens_of, reds_of}
use Rattle.log_sums.specs.Spells.{begins}
use Rattle.log_sums.proofs.restart.restart_group.Goals as goal

pub returns : goal.returns
returns c = λ a from n is. record {
  greens_are = c.restart_spells.ensures (greens_of a) from n is.greens_are;
  reds_are = c.restart_spells-2.ensures (reds_of a) from n is.reds_are;
  cycles_are = c.restart_gaps.ensures (begins (greens_of a)) from n is.cycles_are;
}
