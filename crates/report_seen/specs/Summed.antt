-- What the reading of a log gives.
use Rattle.std.specs.Prelude.{false, ℕ, List, length, None, Result, Ok, Err, Vec}
use Rattle.std.specs.declared.alloc.Global.{Global}
use Rattle.sig_types.specs.declared.record.Record.{Record}
use Rattle.log_read.specs.Readings.{IsRecords}
use Rattle.log_read.specs.declared.begin.Begin.TheVariants.{AtOne}
use Rattle.report_seen.specs.declared.stop.Stop.{Stop}
use Rattle.report_seen.specs.declared.stop.Stop.TheVariants.{Memory, Words, TooManySeconds, ReadFault, WriteFault, Line, LogEnds}
use Rattle.report_seen.specs.Answers.{IsRefusedAt}
use Rattle.log_sums.specs.declared.serves.Serve.{Serve}
use Rattle.log_sums.specs.declared.sums.LogSums.{LogSums}
use Rattle.log_sums.specs.Summed.{AreSumsOf}
use Rattle.log_sums.specs.Parts.{AreParts}

-- what the seconds from `from` to `to` of a log with these bytes add up to, of groups with these names; all its lines are accepted
pub record AreSumsIn (names : List (List ℕ)) (bytes : List ℕ) (from to : ℕ) (sums : LogSums) : Type 0 where
  pub records : List Record
  pub log : IsRecords false AtOne names bytes records None
  pub summed : AreSumsOf (length names) from to records sums

-- why a log with these bytes is not added up
abbrev pub IsUnsummed : List ℕ → Stop → Type 0
IsUnsummed bytes Memory = Unit {0}
IsUnsummed bytes Words = ⊥
IsUnsummed bytes TooManySeconds = ⊥
IsUnsummed bytes ReadFault = Unit {0}
IsUnsummed bytes WriteFault = ⊥
IsUnsummed bytes (Line line why) = IsRefusedAt bytes line why
IsUnsummed bytes (LogEnds last) = ⊥

-- what the adding up of a log answers
abbrev pub IsSumming : (names : List (List ℕ)) (bytes : List ℕ) (from to : ℕ) → Result LogSums Stop → Type 0
IsSumming names bytes from to (Ok sums) = AreSumsIn names bytes from to sums
IsSumming names bytes from to (Err stop) = IsUnsummed bytes stop

-- What the parts of a log with these bytes add up to that have `each` seconds, from second `from` to second `to`, of groups with these
-- names and detectors that serve them; all its lines are accepted.
pub record ArePartsIn (names : List (List ℕ)) (bytes : List ℕ) (from each to : ℕ) (serves : List Serve) (parts : List LogSums) : Type 0 where
  pub records : List Record
  pub log : IsRecords false AtOne names bytes records None
  pub parts_are : AreParts (length names) from each to serves records parts

-- what the adding up of parts answers
abbrev pub IsParting : (names : List (List ℕ)) (bytes : List ℕ) (from each to : ℕ) (serves : List Serve) → Result (Vec LogSums Global) Stop → Type 0
IsParting names bytes from each to serves (Ok parts) = ArePartsIn names bytes from each to serves parts.items
IsParting names bytes from each to serves (Err stop) = IsUnsummed bytes stop
