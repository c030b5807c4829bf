use Rattle.std.proofs.Common.{refl, arith}
use Rattle.junction_calls.proofs.Zeros.{all_zero}
use Rattle.junction_calls.proofs.mask.refusals_of.Goals as goal

pub loop-g-init : goal.loop-g-init
loop-g-init c = record {
  sizes = (refl, refl);
  filled = λ h s natural p lt. absurd (omega arith);
  rest = λ p le. (all_zero 64 p, all_zero 64 p);
}
