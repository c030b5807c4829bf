use Rattle.std.proofs.Common.{◌≡◌, take, map}
use Rattle.log_sums.specs.Told.{alone}
use Rattle.log_sums.proofs.items.rules_of.Given as goal

abbrev pub invariant-loop-turn : goal.invariant-loop-turn
invariant-loop-turn l = l.items.items ≡ map alone (take l.turn-index l.turns)
