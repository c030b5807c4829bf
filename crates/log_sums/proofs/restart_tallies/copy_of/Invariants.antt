use Rattle.std.proofs.Common.{◌≡◌, take}
use Rattle.log_sums.proofs.restart_tallies.copy_of.Given as goal

abbrev pub invariant-loop-tally : goal.invariant-loop-tally
invariant-loop-tally g l = l.copy.items ≡ take l.tally-index l.tallies
