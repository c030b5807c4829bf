use Rattle.std.proofs.Common.{ℕ, ◌<◌}
use Rattle.vap_code.specs.declared.VerifyWhy.TheVariants.{JumpOut}
use Rattle.vap_code.specs.Codes.{code_in}
use Rattle.vap_code.specs.Valid.{FitsCheck}
use Rattle.code_verify.proofs.first.check_targets.Given as goal

abbrev pub invariant-loop-p : goal.invariant-loop-p
invariant-loop-p l = (q : ℕ) → q < l.p → FitsCheck (code_in l.code) JumpOut q
