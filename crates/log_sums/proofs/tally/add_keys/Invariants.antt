use Rattle.std.proofs.Common.{ℕ, List, take}
use Rattle.log_sums.specs.Tallies.{AreTallies, AwaitItems}
use Rattle.log_sums.proofs.tally.add_keys.Given as goal

abbrev pub invariant-loop-item : goal.invariant-loop-item
invariant-loop-item g l = (a : ℕ → List g.row.K.Denot) (from n : ℕ) → AreTallies g.K.Key.code a from n l.fn.tallies.items →
    AwaitItems g.K.Key.code a from n (take l.item-index l.items) l.tallies.items
