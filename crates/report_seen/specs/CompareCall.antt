-- What a call answers.
use Rattle.std.specs.Prelude.{false, ◌≡◌, ◌⊎◌, ℕ, Bool, List, Option, None, Some, Result, Ok, Err, if◌then◌else◌}
use Rattle.std.specs.Option.{ForSome}
use Rattle.std.specs.Io.KnownBytes.{append_known}
use Rattle.sig_io.specs.Outside.{Contents, Rose}
use Rattle.sig_io.specs.Seen.{Seen}
use Rattle.sig_types.specs.declared.record.Record.{Record}
use Rattle.log_read.specs.Readings.{IsRecords}
use Rattle.log_read.specs.declared.begin.Begin.TheVariants.{AtOne}
use Rattle.report_words.specs.declared.status.Status.{Status}
use Rattle.report_words.specs.declared.status.Status.TheVariants.{Done, Broken}
use Rattle.report_words.specs.declared.stop.JudgeStop.{JudgeStop}
use Rattle.report_words.specs.declared.stop.JudgeStop.TheVariants as stop
use Rattle.report_words.specs.Notes.{stop_note}
use Rattle.report_words.specs.Statuses.{status_of}
use Rattle.report_seen.specs.CompareForm.{Asked, form_of}
use Rattle.report_seen.specs.Loaded.{IsFault, IsUnloaded}
use Rattle.report_seen.specs.Told.{IsBroken, IsTextOf}

-- all lines of a log with these bytes are accepted
abbrev pub IsAccepted : List ℕ → Type 0
IsAccepted bytes = (names : List (List ℕ)) × ((records : List Record) × IsRecords false AtOne names bytes records None)

-- the one log isn't read to its end for this reason, or the one is, and the other isn't
abbrev pub IsLogStop : Asked → Contents → JudgeStop → Type 0
IsLogStop asked file why =
    IsUnloaded asked.one (file asked.one) why ⊎ (IsAccepted (file asked.one) × IsUnloaded asked.other (file asked.other) why)

-- where a call stops: nothing is written, but where the sink fails while the text is written
abbrev pub IsStopped : Asked → Contents → JudgeStop → Option (List ℕ) → Option (List ℕ) → Type 0
IsStopped asked file stop.Words old new = ⊥
IsStopped asked file stop.Memory old new = new ≡ old
IsStopped asked file (stop.Site why) old new = ⊥
IsStopped asked file (stop.ReadFault at) old new = (new ≡ old) × IsLogStop asked file (stop.ReadFault at)
IsStopped asked file (stop.RefusedLine at line why) old new = (new ≡ old) × IsLogStop asked file (stop.RefusedLine at line why)
IsStopped asked file stop.WriteFault old new = IsBroken asked (file asked.one) (file asked.other) old new

-- what a call gives that asks for this, of files with these contents: whether the logs differ, and the text
abbrev pub IsAnswered : Asked → Contents → Result Bool JudgeStop → Option (List ℕ) → Option (List ℕ) → Type 0
IsAnswered asked file (Ok differ) old new =
    (text : List ℕ) × (IsTextOf asked (file asked.one) (file asked.other) differ text × (new ≡ append_known old text))
IsAnswered asked file (Err why) old new = IsStopped asked file why old new

-- how a call ends that was not stopped
abbrev pub status_for : Bool → Status
status_for differ = if differ then Broken else Done

-- how a call ends that gives this
abbrev pub status_by : Result Bool JudgeStop → Status
status_by (Ok differ) = status_for differ
status_by (Err why) = status_of why

-- the note of a call that gives this: none where it was not stopped
abbrev pub IsNoted : Result Bool JudgeStop → Seen (List ℕ) → Type 0
IsNoted (Ok differ) notes = notes.new ≡ notes.old
IsNoted (Err why) notes = (Rose notes.before notes.after → ⊥) → notes.new ≡ append_known notes.old (stop_note why)

-- words that are no form are not answered; what a form asks for is answered where the files tell what they hold
abbrev pub IsAnswerTo : Option Asked → Seen Contents → Seen (List ℕ) → Result Bool JudgeStop → Type 0
IsAnswerTo None files out given = (given ≡ Err stop.Words) × (out.new ≡ out.old)
IsAnswerTo (Some asked) files out given = ForSome files.old (λ file. IsAnswered asked file given out.old out.new)

-- what the top call answers to these words, over files, a sink for the text and one for the note
pub record IsReported (words : List (List ℕ)) (files : Seen Contents) (out notes : Seen (List ℕ)) (status : Status) : Type 0 where
  pub given : Result Bool JudgeStop
  pub answer : IsAnswerTo (form_of words) files out given
  pub status_is : status ≡ status_by given
  pub note : IsNoted given notes
  pub read_fault : IsFault given → Rose files.before files.after
  pub write_fault : given ≡ Err stop.WriteFault → Rose out.before out.after
