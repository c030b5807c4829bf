use Rattle.std.proofs.Common.{length, sym, ap, subst, arith}
use Rattle.std.specs.Prelude.{slice_index_or, ◌≡◌}
use Rattle.det_board.proofs.Opening.{all_zero}
use Rattle.det_board.proofs.close.unread_counts.Goals as goal

pub loop-place-init : goal.loop-place-init
loop-place-init c = (
  ap length c.empty-frame.ensures,
  (λ d h. absurd (omega arith)),
  (λ d h. subst (λ l. slice_index_or l d (0, 0) ≡ (0, 0)) (sym c.empty-frame.ensures) (all_zero 64 d)),
)
