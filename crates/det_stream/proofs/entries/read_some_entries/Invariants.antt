use Rattle.std.proofs.Common.{◌≡◌, ℕ, length, true}
use Rattle.det_stream.specs.Totals.{RearsWithinFronts}
use Rattle.det_stream.proofs.ReadLemmas.{HasEntries, HasSums}
use Rattle.det_stream.proofs.entries.read_some_entries.Given as goal

abbrev pub invariant-loop-found : goal.invariant-loop-found
invariant-loop-found l = record {
  entries : (n : ℕ) × HasEntries l.line l.rest l.last l.frame n;
  sums : HasSums l.initial.totals l.totals l.frame l.last;
  within : l.within ≡ true → RearsWithinFronts l.totals;
}

abbrev pub decreases-loop-found : goal.decreases-loop-found
decreases-loop-found l = length l.rest
