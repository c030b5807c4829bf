use Rattle.std.proofs.Common.{refl, arith}
use Rattle.junction_calls.proofs.Zeros.{all_zero}
use Rattle.junction_calls.proofs.mask.stage_rules_of.Goals as goal

pub loop-i-init : goal.loop-i-init
loop-i-init c = record { size = refl; filled = λ p lt. absurd (omega arith); rest = λ p le. all_zero 32 p }
