-- What a call of `log_report breaches` or `log_report protocol` of a record answers.
use Rattle.std.specs.Prelude.{◌≡◌, ◌⊎◌, ℕ, Bool, true, false, List, Option, None, Some, Result, Ok, Err}
use Rattle.std.specs.Option.{ForSome}
use Rattle.std.specs.Str.Lines.{lines}
use Rattle.std.specs.Io.KnownBytes.{append_known}
use Rattle.sig_io.specs.Draft.{IsCut}
use Rattle.sig_io.specs.Outside.{Contents, Rose}
use Rattle.sig_io.specs.Seen.{Seen}
use Rattle.sig_types.specs.Rules.{Rules}
use Rattle.site_load.specs.declared.stop.SiteStop.{SiteStop}
use Rattle.site_load.specs.Stop.{IsLoadStop}
use Rattle.report_words.specs.declared.status.Status.{Status}
use Rattle.report_words.specs.declared.status.Status.TheVariants.{Done, Broken}
use Rattle.report_words.specs.declared.stop.JudgeStop.TheVariants.{Words, Memory, Site, ReadFault, RefusedLine, WriteFault}
use Rattle.tenth_records.specs.declared.entry.TenthWhy.{TenthWhy}
use Rattle.tenth_records.specs.Answers.{record_told}
use Rattle.tenth_records.specs.Header.{header_of}
use Rattle.tenth_records.specs.Names.{plan_of_names}
use Rattle.tenth_report.specs.declared.stop.RecordStop.{RecordStop}
use Rattle.tenth_report.specs.declared.stop.RecordStop.TheVariants.{Judge, RefusedEntry}
use Rattle.tenth_report.specs.Form.{Asked, form_of}
use Rattle.tenth_report.specs.Stops.{IsReadFault, IsWriteFault, status_of, stop_note}
use Rattle.tenth_report.specs.Tables.{ReachedInTables, rules_at}
use Rattle.tenth_report.specs.Told.{IsTold}

-- the header of the record is accepted, and a table isn't taken
pub record IsTableUntaken (asked : Asked) (file : Contents) (stop : SiteStop) : Type 0 where
  pub names : List (List ℕ)
  pub header : header_of (lines (file asked.record_file)) ≡ Ok names
  pub stop_is : IsLoadStop (λ word. ReachedInTables file asked.times asked.intergreens (plan_of_names names) word) stop
      (rules_at file asked.times asked.intergreens (plan_of_names names))

-- the header and the tables are accepted, and a line behind the header is the first that is refused
pub record IsLineRefused (asked : Asked) (file : Contents) (line : ℕ) (why : TenthWhy) : Type 0 where
  pub names : List (List ℕ)
  pub header : header_of (lines (file asked.record_file)) ≡ Ok names
  pub rules : Rules
  pub tables : rules_at file asked.times asked.intergreens (plan_of_names names) ≡ Ok rules
  pub refused : (record_told names (file asked.record_file)).refused ≡ Some (line, why)

-- a line of the record is refused: the first, or one behind the tables
abbrev pub IsEntryRefused : Asked → Contents → ℕ → TenthWhy → Type 0
IsEntryRefused asked file line why =
    ((line ≡ 1) × (header_of (lines (file asked.record_file)) ≡ Err why)) ⊎ IsLineRefused asked file line why

-- why there is no text
abbrev pub HasNoText : Asked → Contents → RecordStop → Type 0
HasNoText asked file (Judge Words) = ⊥
HasNoText asked file (Judge Memory) = Unit {0}
HasNoText asked file (Judge (Site stop)) = IsTableUntaken asked file stop
HasNoText asked file (Judge (ReadFault word)) = word.now ≡ asked.record_file
HasNoText asked file (Judge (RefusedLine word line why)) = ⊥
HasNoText asked file (Judge WriteFault) = ⊥
HasNoText asked file (RefusedEntry word line why) = (word.now ≡ asked.record_file) × IsEntryRefused asked file line why

-- a sink has taken only the first bytes of a text that is told, and failed
abbrev pub IsCutShort : Asked → Contents → Option (List ℕ) → Option (List ℕ) → Type 0
IsCutShort asked file old new =
    (text : List ℕ) × ((broken : Bool) × (IsTold asked file text broken × ((n : ℕ) × IsCut old new n text)))

-- where a call stops: nothing is written, but where the sink fails while the text is written
abbrev pub IsStopped : Asked → Contents → RecordStop → Option (List ℕ) → Option (List ℕ) → Type 0
IsStopped asked file (Judge Words) old new = ⊥
IsStopped asked file (Judge Memory) old new = new ≡ old
IsStopped asked file (Judge (Site stop)) old new = (new ≡ old) × HasNoText asked file (Judge (Site stop))
IsStopped asked file (Judge (ReadFault word)) old new = (new ≡ old) × HasNoText asked file (Judge (ReadFault word))
IsStopped asked file (Judge (RefusedLine word line why)) old new = ⊥
IsStopped asked file (Judge WriteFault) old new = IsCutShort asked file old new
IsStopped asked file (RefusedEntry word line why) old new = (new ≡ old) × HasNoText asked file (RefusedEntry word line why)

-- what a call gives that asks for this, of files with these contents
abbrev pub IsAnswered : Asked → Contents → Result Bool RecordStop → Option (List ℕ) → Option (List ℕ) → Type 0
IsAnswered asked file (Ok broken) old new = (text : List ℕ) × (IsTold asked file text broken × (new ≡ append_known old text))
IsAnswered asked file (Err stop) old new = IsStopped asked file stop old new

-- a sink has taken the text, or only its first bytes, and failed
abbrev pub IsWritten : List ℕ → Result (Unit {0}) RecordStop → Option (List ℕ) → Option (List ℕ) → Type 0
IsWritten text (Ok x) old new = new ≡ append_known old text
IsWritten text (Err stop) old new = (stop ≡ Judge WriteFault) × ((n : ℕ) × IsCut old new n text)

-- how a call ends that was done
abbrev pub done_with : Bool → Status
done_with true = Broken
done_with false = Done

-- how a call ends that gives this
abbrev pub status_by : Result Bool RecordStop → Status
status_by (Ok broken) = done_with broken
status_by (Err stop) = status_of stop

-- the note of a call that gives this: none where all was done
abbrev pub IsNoted : Result Bool RecordStop → Seen (List ℕ) → Type 0
IsNoted (Ok broken) notes = notes.new ≡ notes.old
IsNoted (Err stop) notes = (Rose notes.before notes.after → ⊥) → notes.new ≡ append_known notes.old (stop_note stop)

-- words that are no form are not answered; what a form asks for is answered where the files tell what they hold
abbrev pub IsAnswerTo : Option Asked → Seen Contents → Seen (List ℕ) → Result Bool RecordStop → Type 0
IsAnswerTo None files out given = (given ≡ Err (Judge Words)) × (out.new ≡ out.old)
IsAnswerTo (Some asked) files out given = ForSome files.old (λ file. IsAnswered asked file given out.old out.new)

-- what the top call answers to these words, over files, a sink for the text and one for the note
pub record IsReported (words : List (List ℕ)) (files : Seen Contents) (out notes : Seen (List ℕ)) (status : Status) : Type 0 where
  pub given : Result Bool RecordStop
  pub answer : IsAnswerTo (form_of words) files out given
  pub status_is : status ≡ status_by given
  pub note : IsNoted given notes
  pub read_fault : IsReadFault given → Rose files.before files.after
  pub write_fault : IsWriteFault given → Rose out.before out.after
