use Rattle.std.proofs.Common.{◌≡◌, false, take}
use Rattle.std.specs.Prelude.{◌==◌}
use Rattle.std.specs.List.{list_any}
use Rattle.log_sums.proofs.tally.has_tally.Given as goal

abbrev pub invariant-loop-tally : goal.invariant-loop-tally
invariant-loop-tally g l = list_any (λ x. g.K.Key.code x.key == l.code) (take l.tally-index l.tallies) ≡ false
