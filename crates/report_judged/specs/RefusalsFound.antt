-- What the reading of a log gives.
use Rattle.std.specs.Prelude.{true, ◌≡◌, ℕ, List, None, Some, Result, Ok, Err}
use Rattle.sig_types.specs.declared.record.Record.{Record}
use Rattle.sig_types.specs.Rules.{Rules}
use Rattle.report_words.specs.declared.stop.JudgeStop.{JudgeStop}
use Rattle.report_words.specs.declared.stop.JudgeStop.TheVariants.{Words, Memory, Site, ReadFault, RefusedLine, WriteFault}
use Rattle.log_read.specs.declared.refusal.LogWhy.{LogWhy}
use Rattle.log_read.specs.Readings.{IsRecords}
use Rattle.log_read.specs.declared.begin.Begin.TheVariants.{Anywhere}
use Rattle.refusal_text.specs.declared.finder.Refusals.{Refusals}
use Rattle.refusal_text.specs.Kept.{HasFound}

-- what is kept of all records of a log with these bytes, of groups with these names
pub record AreFound (names : List (List ℕ)) (r : Rules) (bytes : List ℕ) (from to : ℕ) (refusals : Refusals) : Type 0 where
  pub records : List Record
  pub log : IsRecords true Anywhere names bytes records None
  pub found : HasFound refusals r from to records

-- the first line that is refused, of a log of which the records are read, is this one for this reason
abbrev pub IsRefusedAt : List (List ℕ) → List ℕ → ℕ → LogWhy → Type 0
IsRefusedAt names bytes line reason = (records : List Record) × IsRecords true Anywhere names bytes records (Some (line, reason))

-- why a log with this word and these bytes is not read to its end
abbrev pub IsUnread : List (List ℕ) → List ℕ → List ℕ → JudgeStop → Type 0
IsUnread names word bytes Words = ⊥
IsUnread names word bytes Memory = Unit {0}
IsUnread names word bytes (Site stop) = ⊥
IsUnread names word bytes (ReadFault at) = at.now ≡ word
IsUnread names word bytes (RefusedLine at line reason) = (at.now ≡ word) × IsRefusedAt names bytes line reason
IsUnread names word bytes WriteFault = ⊥

-- reading a log may stop so
abbrev pub IsOfLog : JudgeStop → Type 0
IsOfLog Words = ⊥
IsOfLog Memory = Unit {0}
IsOfLog (Site stop) = ⊥
IsOfLog (ReadFault at) = Unit {0}
IsOfLog (RefusedLine at line reason) = Unit {0}
IsOfLog WriteFault = ⊥

-- what the reading of such a log answers
abbrev pub IsFinding : List (List ℕ) → Rules → (word bytes : List ℕ) → (from to : ℕ) → Result Refusals JudgeStop → Type 0
IsFinding names r word bytes from to (Ok refusals) = AreFound names r bytes from to refusals
IsFinding names r word bytes from to (Err stop) = IsUnread names word bytes stop

-- it was stopped by the read of a log that failed
abbrev pub IsLogFault : {A : Type 0} → Result A JudgeStop → Type 0
IsLogFault (Ok x) = ⊥
IsLogFault (Err Words) = ⊥
IsLogFault (Err Memory) = ⊥
IsLogFault (Err (Site stop)) = ⊥
IsLogFault (Err (ReadFault at)) = Unit {0}
IsLogFault (Err (RefusedLine at line reason)) = ⊥
IsLogFault (Err WriteFault) = ⊥
