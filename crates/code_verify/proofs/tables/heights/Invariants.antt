use Rattle.std.proofs.Common.{◌≡◌, ℕ, ◌<◌, ◌≤◌, length, get_or, None}
use Rattle.vap_code.specs.Valid.{from_first, height_after}
use Rattle.code_verify.specs.Tables.{first_jump}
use Rattle.code_verify.proofs.tables.heights.Given as goal

abbrev pub invariant-loop-p : goal.invariant-loop-p
invariant-loop-p l = record {
  table : l.heights.items ≡ from_first (height_after l.instrs l.starts) l.p;
  long : length l.heights.items ≡ l.p;
  low : (k : ℕ) → k < length l.heights.items → get_or l.heights.items k 0 ≤ k;
  wide : length l.brought.items ≡ length l.instrs;
  brought : (t : ℕ) → t < length l.instrs → get_or l.brought.items t None ≡ first_jump l.instrs l.heights.items t;
}
