use Rattle.std.proofs.Common.{◌≡◌, length, get_or, sym, ap, subst, arith}
use Rattle.junction_calls.proofs.Zeros.{all_none}
use Rattle.junction_calls.proofs.counts.frame_of.Goals as goal

pub loop-part-init : goal.loop-part-init
loop-part-init c = record {
  size = ap length c.empty-frame.ensures;
  counts = λ p lt. absurd (omega arith);
  rest = λ p le. subst (λ frame. get_or frame p (0, 0) ≡ (0, 0)) (sym c.empty-frame.ensures) (all_none 64 p);
}
