-- What the reading of a log gives.
use Rattle.std.specs.Prelude.{◌≡◌, ℕ, List, None, Some, Result, Ok, Err}
use Rattle.sig_types.specs.Turns.{Picture}
use Rattle.report_words.specs.declared.stop.JudgeStop.{JudgeStop}
use Rattle.report_words.specs.declared.stop.JudgeStop.TheVariants.{Words, Memory, Site, ReadFault, RefusedLine, WriteFault}
use Rattle.log_read.specs.declared.refusal.LogWhy.{LogWhy}
use Rattle.log_read.specs.Answers.{IsFirst}
use Rattle.log_read.specs.Readings.{IsPictures}
use Rattle.log_read.specs.declared.begin.Begin.TheVariants.{Anywhere}
use Rattle.log_protocol.specs.Page.{IsPageOf}
use Rattle.report_judged.specs.declared.protocol_gathering.Gathered.{Gathered}

-- the page of all pictures of a log with these bytes, of groups with these names, and the second of the first one
pub record IsGathered (names : List (List ℕ)) (bytes : List ℕ) (gathered : Gathered) : Type 0 where
  pub pictures : List Picture
  pub log : IsPictures Anywhere names bytes pictures None
  pub page : IsPageOf gathered.page pictures
  pub first : IsFirst Anywhere bytes pictures gathered.first

-- the first line that is refused, of a log of which the pictures are read, is this one for this reason
abbrev pub IsRefusedAt : List (List ℕ) → List ℕ → ℕ → LogWhy → Type 0
IsRefusedAt names bytes line reason = (pictures : List Picture) × IsPictures Anywhere names bytes pictures (Some (line, reason))

-- why a log with this word and these bytes is not read to its end
abbrev pub IsUnread : List (List ℕ) → List ℕ → List ℕ → JudgeStop → Type 0
IsUnread names word bytes Words = ⊥
IsUnread names word bytes Memory = Unit {0}
IsUnread names word bytes (Site stop) = ⊥
IsUnread names word bytes (ReadFault at) = at.now ≡ word
IsUnread names word bytes (RefusedLine at line reason) = (at.now ≡ word) × IsRefusedAt names bytes line reason
IsUnread names word bytes WriteFault = ⊥

-- reading a log may stop so
abbrev pub IsOfLog : JudgeStop → Type 0
IsOfLog Words = ⊥
IsOfLog Memory = Unit {0}
IsOfLog (Site stop) = ⊥
IsOfLog (ReadFault at) = Unit {0}
IsOfLog (RefusedLine at line reason) = Unit {0}
IsOfLog WriteFault = ⊥

-- what the reading of such a log answers
abbrev pub IsGathering : List (List ℕ) → List ℕ → List ℕ → Result Gathered JudgeStop → Type 0
IsGathering names word bytes (Ok gathered) = IsGathered names bytes gathered
IsGathering names word bytes (Err stop) = IsUnread names word bytes stop

-- it was stopped by the read of a log that failed
abbrev pub IsLogFault : {A : Type 0} → Result A JudgeStop → Type 0
IsLogFault (Ok x) = ⊥
IsLogFault (Err Words) = ⊥
IsLogFault (Err Memory) = ⊥
IsLogFault (Err (Site stop)) = ⊥
IsLogFault (Err (ReadFault at)) = Unit {0}
IsLogFault (Err (RefusedLine at line reason)) = ⊥
IsLogFault (Err WriteFault) = ⊥
