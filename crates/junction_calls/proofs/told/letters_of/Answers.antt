use Rattle.std.proofs.Common.{refl, arith}
use Rattle.junction_calls.proofs.Zeros.{all_zero}
use Rattle.junction_calls.proofs.told.letters_of.Goals as goal

-- src/told.rt:53:5
pub loop-place-init : goal.loop-place-init
loop-place-init c = record { size = refl; letters = λ g lt. absurd (omega arith); rest = λ p le. all_zero 64 p }
