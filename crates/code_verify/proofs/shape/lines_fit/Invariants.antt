use Rattle.std.proofs.Common.{ℕ, ◌<◌, IsTrue}
use Rattle.vap_code.specs.Valid.{line_fits, instr_at}
use Rattle.code_verify.proofs.shape.lines_fit.Given as goal

abbrev pub invariant-loop-p : goal.invariant-loop-p
invariant-loop-p l = (q : ℕ) → q < l.p → IsTrue (line_fits (instr_at l.instrs q))
