use Rattle.std.proofs.Common.{refl, arith}
use Rattle.sig_types.proofs.Zeros.{zeros_outside}
use Rattle.sig_types.proofs.frame.Frame.empty.Goals as goal

pub invariant_of-result : goal.invariant_of-result
invariant_of-result c = (refl, omega arith, omega arith, zeros_outside 64 0 64)
