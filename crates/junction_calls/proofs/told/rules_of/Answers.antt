use Rattle.std.proofs.Common.{refl, arith, rules}
use Rattle.std.proofs.lemmas.Grind.{common_steps}
use Rattle.junction_calls.proofs.Zeros.{all_zero}
use Rattle.junction_calls.proofs.told.rules_of.Goals as goal

-- src/told.rt:53:5
pub loop-i-init : goal.loop-i-init
loop-i-init c = record { size = refl; filled = λ p turn lt is. absurd (omega arith); rest = λ p le. all_zero 64 p }

pub loop-i-preserved : goal.loop-i-preserved
loop-i-preserved c = record { size = search rules; filled = grind (arith, common_steps); rest = grind (arith, common_steps) }
