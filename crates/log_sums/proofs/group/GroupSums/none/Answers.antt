use Rattle.log_sums.specs.Groups.{greens_of, reds_of}
use Rattle.log_sums.specs.Spells.{begins}
use Rattle.log_sums.proofs.group.GroupSums.none.Goals as goal

pub returns : goal.returns
returns c = λ a from. record {
  greens_are = c.none.ensures (greens_of a) from;
  reds_are = c.none-2.ensures (reds_of a) from;
  cycles_are = c.none-3.ensures (begins (greens_of a)) from;
}
