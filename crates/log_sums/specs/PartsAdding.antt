-- Parts while the records of a log are read.
use Rattle.std.specs.Prelude.{◌≡◌, ℕ, ◌<◌, ◌≤◌, true, min, List, length, slice_index_or}
use Rattle.sig_types.specs.declared.record.Record.{Record}
use Rattle.log_sums.specs.declared.serves.Serve.{Serve}
use Rattle.log_sums.specs.declared.sums.LogSums.{LogSums}
use Rattle.log_sums.specs.Adding.{AddsUpTo}
use Rattle.log_sums.specs.Serves.{serves_of}
use Rattle.log_sums.specs.declared.parts.PartSums.{PartSums}
use Rattle.log_sums.specs.Parts.{begin_of, end_of}

-- what these records add up to from second `from` to `to`, which is over
abbrev pub IsOver : (groups from to : ℕ) → List Record → LogSums → Type 0
IsOver groups from to records x = AddsUpTo groups from to records x × (x.goes_on ≡ true)

-- what the parts of a log add up to that begins with these records: those that are over, and the one that isn't
pub record PartsUpTo (groups from each to : ℕ) (serves : List Serve) (records : List Record) (x : PartSums) : Type 0 where
  pub each_is : x.each ≡ each
  pub to_is : x.to ≡ to
  pub over_are : (i : ℕ) (d : LogSums) → i < length x.over.items →
      IsOver groups (begin_of from each i) (end_of from each to i) records (slice_index_or x.over.items i d)
  pub current_is : AddsUpTo groups (begin_of from each (length x.over.items)) (end_of from each to (length x.over.items)) records x.current
  pub over_serve : (i : ℕ) (d : LogSums) → i < length x.over.items → serves_of (slice_index_or x.over.items i d).serves.items ≡ serves
  pub current_serves : serves_of x.current.serves.items ≡ serves
  pub begun : (i : ℕ) → 1 ≤ i → i ≤ length x.over.items → begin_of from each i ≤ min to (length records)
  pub enough : min to (length records) ≤ end_of from each to (length x.over.items)
