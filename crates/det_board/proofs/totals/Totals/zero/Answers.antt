use Rattle.std.proofs.Common.{replicate, sym, subst}
use Rattle.det_board.specs.Passes.{AreSums}
use Rattle.det_board.proofs.Opening.{zero_sums}
use Rattle.det_board.proofs.totals.Totals.zero.Goals as goal

pub invariant_of-result : goal.invariant_of-result
invariant_of-result c = subst (λ counts. AreSums counts (replicate 16 0)) (sym c.empty.ensures) zero_sums
