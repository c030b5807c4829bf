-- What the reading of a log gives.
use Rattle.std.specs.Prelude.{◌≡◌, ℕ, ◌≤◌, List, [], length, Result, Ok, Err}
use Rattle.log_read.specs.RecordAnswers.{names_of}
use Rattle.report_seen.specs.Answers.{IsRefusedAt}
use Rattle.report_words.specs.declared.stop.JudgeStop.{JudgeStop}
use Rattle.report_words.specs.declared.stop.JudgeStop.TheVariants.{Words, Memory, Site, ReadFault, RefusedLine, WriteFault}
use Rattle.log_sums.specs.Serves.{serves_of}
use Rattle.sums_text.specs.Words.{AreTextual}
use Rattle.report_seen.specs.Summed.{AreSumsIn}
use Rattle.report_seen.specs.declared.loading.Summed.{Summed}

-- what is held of a log are its bytes, all of whose lines are accepted, and what all its seconds add up to, of no detectors that serve a group
pub record IsSummed (s : Summed) : Type 0 where
  pub sums : AreSumsIn (names_of s.records) s.bytes.items 1 604801 s.sums
  pub unserved : serves_of s.sums.serves.items ≡ []
  pub textual : AreTextual (length (names_of s.records)) s.sums
  pub few : length (names_of s.records) ≤ 64

-- the bytes of the log with this word are not had
abbrev pub IsUnread : List ℕ → JudgeStop → Type 0
IsUnread word Words = ⊥
IsUnread word Memory = Unit {0}
IsUnread word (Site why) = ⊥
IsUnread word (ReadFault at) = at.now ≡ word
IsUnread word (RefusedLine at line why) = ⊥
IsUnread word WriteFault = ⊥

-- why the log with this word and these bytes is not added up
abbrev pub IsUnloaded : List ℕ → List ℕ → JudgeStop → Type 0
IsUnloaded word bytes Words = ⊥
IsUnloaded word bytes Memory = Unit {0}
IsUnloaded word bytes (Site why) = ⊥
IsUnloaded word bytes (ReadFault at) = at.now ≡ word
IsUnloaded word bytes (RefusedLine at line why) = (at.now ≡ word) × IsRefusedAt bytes line why
IsUnloaded word bytes WriteFault = ⊥

-- reading a log may stop so
abbrev pub IsOfLoad : JudgeStop → Type 0
IsOfLoad Words = ⊥
IsOfLoad Memory = Unit {0}
IsOfLoad (Site why) = ⊥
IsOfLoad (ReadFault at) = Unit {0}
IsOfLoad (RefusedLine at line why) = Unit {0}
IsOfLoad WriteFault = ⊥

-- it was stopped by a read that failed
abbrev pub IsFault : {A : Type 0} → Result A JudgeStop → Type 0
IsFault (Ok x) = ⊥
IsFault (Err Words) = ⊥
IsFault (Err Memory) = ⊥
IsFault (Err (Site why)) = ⊥
IsFault (Err (ReadFault at)) = Unit {0}
IsFault (Err (RefusedLine at line why)) = ⊥
IsFault (Err WriteFault) = ⊥
