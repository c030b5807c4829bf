use Rattle.tenth_tables.proofs.OneWays.{BothBelow}
use Rattle.tenth_tables.proofs.intergreens_reader.Listed.judge_both_ways.Given as goal

abbrev pub invariant-loop-k : goal.invariant-loop-k
invariant-loop-k l = BothBelow l.self.cells.items l.self.pairs.items l.k
