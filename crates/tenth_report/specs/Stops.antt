-- Why a call stopped, and how it ended.
use Rattle.std.specs.Prelude.{◌≡◌, ℕ, List, codes, Some, Result, Ok, Err}
use Rattle.site_load.specs.declared.stop.SiteStop.TheVariants as site
use Rattle.report_words.specs.declared.status.Status.{Status}
use Rattle.report_words.specs.declared.status.Status.TheVariants.{Refused}
use Rattle.report_words.specs.declared.stop.JudgeStop.TheVariants.{Words, Memory, Site, ReadFault, RefusedLine, WriteFault}
use Rattle.report_words.specs.Notes as judge_notes
use Rattle.report_words.specs.Statuses as judge_statuses
use Rattle.tenth_records.specs.declared.entry.TenthStop.{TenthStop}
use Rattle.tenth_records.specs.declared.entry.TenthStop.TheVariants as tenth
use Rattle.tenth_records.specs.declared.entry.TenthWhy.{TenthWhy}
use Rattle.tenth_records.specs.declared.entry.TenthWhy.TheVariants as why
use Rattle.tenth_records.specs.Record.{Told}
use Rattle.tenth_report.specs.declared.stop.RecordStop.{RecordStop}
use Rattle.tenth_report.specs.declared.stop.RecordStop.TheVariants.{Judge, RefusedEntry}

-- the name of a reason
abbrev pub why_name : TenthWhy → List ℕ
why_name why.LineTooLong = codes "LineTooLong"
why_name why.Header = codes "Header"
why_name why.AfterEnd = codes "AfterEnd"
why_name why.Time = codes "Time"
why_name why.Order = codes "Order"
why_name why.TooManySeconds = codes "TooManySeconds"
why_name why.Aspects = codes "Aspects"
why_name why.MissingEnd = codes "MissingEnd"

-- the note of a call that stopped
abbrev pub stop_note : RecordStop → List ℕ
stop_note (Judge stop) = judge_notes.stop_note stop
stop_note (RefusedEntry word line why) = judge_notes.line_note word.now line (why_name why)

-- how a call ends that stopped
abbrev pub status_of : RecordStop → Status
status_of (Judge stop) = judge_statuses.status_of stop
status_of (RefusedEntry word line why) = Refused

-- what a stop of the reader means, of a record by this word
abbrev pub IsStopOf : List ℕ → TenthStop → RecordStop → Type 0
IsStopOf word tenth.Memory stop = stop ≡ Judge Memory
IsStopOf word tenth.Fault (Judge (ReadFault w)) = w.now ≡ word
IsStopOf word tenth.Fault stop = ⊥
IsStopOf word (tenth.At line why) (RefusedEntry w line' why') = (w.now ≡ word) × (line' ≡ line) × (why' ≡ why)
IsStopOf word (tenth.At line why) (Judge stop) = ⊥

-- it was stopped by a read that failed
abbrev pub IsReadFault : {A : Type 0} → Result A RecordStop → Type 0
IsReadFault (Ok x) = ⊥
IsReadFault (Err (Judge Words)) = ⊥
IsReadFault (Err (Judge Memory)) = ⊥
IsReadFault (Err (Judge (Site site.Memory))) = ⊥
IsReadFault (Err (Judge (Site (site.ReadFault word)))) = Unit {0}
IsReadFault (Err (Judge (Site (site.Refused word line reason)))) = ⊥
IsReadFault (Err (Judge (Site (site.TooLong word)))) = ⊥
IsReadFault (Err (Judge (ReadFault word))) = Unit {0}
IsReadFault (Err (Judge (RefusedLine word line why))) = ⊥
IsReadFault (Err (Judge WriteFault)) = ⊥
IsReadFault (Err (RefusedEntry word line why)) = ⊥

-- it was stopped by a write that failed
abbrev pub IsWriteFault : {A : Type 0} → Result A RecordStop → Type 0
IsWriteFault (Ok x) = ⊥
IsWriteFault (Err (Judge Words)) = ⊥
IsWriteFault (Err (Judge Memory)) = ⊥
IsWriteFault (Err (Judge (Site stop))) = ⊥
IsWriteFault (Err (Judge (ReadFault word))) = ⊥
IsWriteFault (Err (Judge (RefusedLine word line why))) = ⊥
IsWriteFault (Err (Judge WriteFault)) = Unit {0}
IsWriteFault (Err (RefusedEntry word line why)) = ⊥

-- the lines of a record with this word, which tell this, are read no further for a stop
abbrev pub IsRecordStop : (word : List ℕ) → Told → RecordStop → Type 0
IsRecordStop word told (Judge Words) = ⊥
IsRecordStop word told (Judge Memory) = Unit {0}
IsRecordStop word told (Judge (Site stop)) = ⊥
IsRecordStop word told (Judge (ReadFault w)) = w.now ≡ word
IsRecordStop word told (Judge (RefusedLine w line why)) = ⊥
IsRecordStop word told (Judge WriteFault) = ⊥
IsRecordStop word told (RefusedEntry w line why) = (w.now ≡ word) × (told.refused ≡ Some (line, why))
