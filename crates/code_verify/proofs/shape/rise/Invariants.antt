use Rattle.std.proofs.Common.{◌≡◌, ◌-◌, drop}
use Rattle.vap_code.specs.Valid.{rise}
use Rattle.code_verify.proofs.shape.rise.Given as goal

abbrev pub invariant-loop-k : goal.invariant-loop-k
invariant-loop-k l = rise l.starts ≡ rise (drop (l.k - 1) l.starts)
