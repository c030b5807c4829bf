use Rattle.std.proofs.Common.{refl, arith}
use Rattle.junction_calls.proofs.Zeros.{all_zero}
use Rattle.junction_calls.proofs.mask.turns_of.Goals as goal

pub loop-g-init : goal.loop-g-init
loop-g-init c = record { size = refl; filled = λ p lt. absurd (omega arith); rest = λ p le. all_zero 64 p }
