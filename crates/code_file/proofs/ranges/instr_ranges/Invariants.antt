use Rattle.std.proofs.Common.{ℕ, ◌<◌}
use Rattle.vap_code.specs.Valid.{instr_at}
use Rattle.code_file.specs.Shape.{IsTyped}
use Rattle.code_file.proofs.ranges.instr_ranges.Given as goal

abbrev pub invariant-loop-instr : goal.invariant-loop-instr
invariant-loop-instr l = (p : ℕ) → p < l.instr-index → IsTyped (instr_at l.instrs p)
