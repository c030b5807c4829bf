use Rattle.std.proofs.Common.{ℕ, ◌<◌, get_or}
use Rattle.code_verify.proofs.shape.lie_inside.Given as goal

abbrev pub invariant-loop-start : goal.invariant-loop-start
invariant-loop-start l = (k : ℕ) → k < l.start-index → get_or l.starts k 0 < l.all
