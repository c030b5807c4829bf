use Rattle.std.proofs.Common.{◌≡◌, ℕ, ◌-◌, ◌≤◌, length, get_or, drop}
use Rattle.vap_code.specs.Valid.{from_last}
use Rattle.code_verify.specs.Tables.{number_before}
use Rattle.code_verify.proofs.tables.counts_back.Given as goal

abbrev pub invariant-loop-done : goal.invariant-loop-done
invariant-loop-done l = record {
  long : length l.table.items ≡ length l.instrs;
  table : drop (length l.instrs - l.«done») l.table.items ≡ from_last (number_before l.number l.instrs l.starts) l.«done»;
  low : (k : ℕ) → get_or l.table.items k 0 ≤ l.«done»;
}
