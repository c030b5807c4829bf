-- The parts of a log: the first one begins with second `from`, and each has `each` seconds, but that none goes on behind `to`.
use Rattle.std.specs.Prelude.{◌≡◌, ℕ, ◌+◌, ◌-◌, ◌*◌, ◌<◌, ◌≤◌, min, List, length, slice_index_or}
use Rattle.sig_types.specs.declared.record.Record.{Record}
use Rattle.log_sums.specs.declared.serves.Serve.{Serve}
use Rattle.log_sums.specs.declared.sums.LogSums.{LogSums}
use Rattle.log_sums.specs.Serves.{serves_of}
use Rattle.log_sums.specs.Summed.{AreSumsOf}

-- the first second of part i, counted from 0
abbrev pub begin_of : (from each : ℕ) → ℕ → ℕ
begin_of from each i = from + i * each

-- its last second
abbrev pub end_of : (from each to : ℕ) → ℕ → ℕ
end_of from each to i = min to (begin_of from each i + each - 1)

-- What the parts of a log with these records add up to, one after another: the first part always, and each other one of which a
-- second is there. In each the same detectors are asked for because they serve a group.
pub record AreParts (groups from each to : ℕ) (serves : List Serve) (records : List Record) (parts : List LogSums) : Type 0 where
  pub sums : (i : ℕ) (d : LogSums) → i < length parts →
      AreSumsOf groups (begin_of from each i) (end_of from each to i) records (slice_index_or parts i d)
  pub serves_are : (i : ℕ) (d : LogSums) → i < length parts → serves_of (slice_index_or parts i d).serves.items ≡ serves
  pub some : 1 ≤ length parts
  pub begun : (i : ℕ) → 1 ≤ i → i < length parts → begin_of from each i ≤ min to (length records)
  pub all : min to (length records) < begin_of from each (length parts)
