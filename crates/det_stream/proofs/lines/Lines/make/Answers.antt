use Rattle.std.proofs.Common.{arith, refl}
use Rattle.det_stream.specs.Answers.{Gave, Reads}
use Rattle.det_stream.proofs.EntryLemmas.{zero_counts, zeros_within}
use Rattle.det_stream.proofs.Steps.{given_none, read_none}
use Rattle.det_stream.proofs.lines.Lines.make.Goals as goal

pub invariant_of-result : goal.invariant_of-result
invariant_of-result c = record {
  at_most = omega arith;
  read_at_most = λ live. omega (arith, c.in-Ok.ensures.given);
  totals_at_most =
      λ live. rw c.zero.ensures (zero_counts 0);
  within_fronts = λ live. rw c.zero.ensures zeros_within;
}

pub returns-clause-gave : goal.returns-clause-gave
unfolding Gave
returns-clause-gave c = given_none _ refl c.zero.ensures

pub returns-clause-reads : goal.returns-clause-reads
unfolding Reads
returns-clause-reads c bytes = read_none _ bytes (given_none _ refl c.zero.ensures) (c.in-Ok.ensures.begins bytes)
