-- What a call answers that tells lost starts.
use Rattle.std.specs.Prelude.{◌≡◌, ℕ, false, List, length, reverse, Option, None, Some, Result, Ok, Err, Vec}
use Rattle.std.specs.declared.alloc.Global.{Global}
use Rattle.std.specs.Option.{ForSome}
use Rattle.std.specs.Io.KnownBytes.{append_known}
use Rattle.sig_io.specs.Draft.{IsCut}
use Rattle.sig_io.specs.Outside.{Contents, Rose}
use Rattle.sig_io.specs.Seen.{Seen}
use Rattle.sig_types.specs.declared.record.Record.{Record}
use Rattle.log_read.specs.declared.begin.Begin.TheVariants.{Anywhere}
use Rattle.log_read.specs.declared.refusal.LogWhy.{LogWhy}
use Rattle.log_read.specs.Readings.{IsRecords}
use Rattle.report_seen.specs.declared.lost.LostStart.{LostStart}
use Rattle.report_seen.specs.declared.stop.Status.{Status}
use Rattle.report_seen.specs.declared.stop.Stop.{Stop}
use Rattle.report_seen.specs.declared.stop.Stop.TheVariants.{Memory, Words, TooManySeconds, ReadFault, WriteFault, Line, LogEnds}
use Rattle.report_seen.specs.DiagramCall.{IsNoted, status_by}
use Rattle.report_seen.specs.Lost.{lost_starts}
use Rattle.report_seen.specs.LostForm.{Asked, form_of}
use Rattle.report_seen.specs.LostText.{lost_text}

-- the starts that are lost in the seconds from `from` to `to` of a log with these bytes, which may begin anywhere, of groups with these
-- names; all its lines are accepted
pub record AreLostIn (names : List (List ℕ)) (bytes : List ℕ) (from to : ℕ) (starts : List LostStart) : Type 0 where
  pub records : List Record
  pub log : IsRecords false Anywhere names bytes records None
  pub starts_are : starts ≡ lost_starts (length names) from to (reverse records)

-- the log is refused at this line for this reason
abbrev pub IsRefusedThere : List ℕ → ℕ → LogWhy → Type 0
IsRefusedThere bytes line why =
    (names : List (List ℕ)) × ((records : List Record) × IsRecords false Anywhere names bytes records (Some (line, why)))

-- why of a log with these bytes nothing is told
abbrev pub IsUntold : List ℕ → Stop → Type 0
IsUntold bytes Memory = Unit {0}
IsUntold bytes Words = ⊥
IsUntold bytes TooManySeconds = ⊥
IsUntold bytes ReadFault = Unit {0}
IsUntold bytes WriteFault = ⊥
IsUntold bytes (Line line why) = IsRefusedThere bytes line why
IsUntold bytes (LogEnds last) = ⊥

-- what the search for lost starts answers
abbrev pub IsLosing : (names : List (List ℕ)) (bytes : List ℕ) (from to : ℕ) → Result (Vec LostStart Global) Stop → Type 0
IsLosing names bytes from to (Ok starts) = AreLostIn names bytes from to starts.items
IsLosing names bytes from to (Err stop) = IsUntold bytes stop

-- the text that is asked for, of files with these contents
pub record IsLostText (asked : Asked) (bytes text : List ℕ) : Type 0 where
  pub names : List (List ℕ)
  pub starts : List LostStart
  pub lost : AreLostIn names bytes asked.from asked.to starts
  pub text_is : text ≡ lost_text asked.csv names starts

-- where a call stops: nothing is written, but where the sink fails while the text is written
abbrev pub IsStopped : Asked → List ℕ → Stop → Option (List ℕ) → Option (List ℕ) → Type 0
IsStopped asked bytes WriteFault old new = (text : List ℕ) × IsLostText asked bytes text × ((n : ℕ) × IsCut old new n text)
IsStopped asked bytes Memory old new = new ≡ old
IsStopped asked bytes Words old new = ⊥
IsStopped asked bytes TooManySeconds old new = ⊥
IsStopped asked bytes ReadFault old new = new ≡ old
IsStopped asked bytes (Line line why) old new = (new ≡ old) × IsRefusedThere bytes line why
IsStopped asked bytes (LogEnds last) old new = ⊥

-- what a call gives that asks for this, of a log with these bytes
abbrev pub IsAnswered : Asked → List ℕ → Result (Unit {0}) Stop → Option (List ℕ) → Option (List ℕ) → Type 0
IsAnswered asked bytes (Ok x) old new = (text : List ℕ) × IsLostText asked bytes text × (new ≡ append_known old text)
IsAnswered asked bytes (Err stop) old new = IsStopped asked bytes stop old new

-- words that are no form are not answered; what a form asks for is answered where the files tell what they hold
abbrev pub IsAnswerTo : Option Asked → Seen Contents → Seen (List ℕ) → Result (Unit {0}) Stop → Type 0
IsAnswerTo None files out given = (given ≡ Err Words) × (out.new ≡ out.old)
IsAnswerTo (Some asked) files out given = ForSome files.old (λ file. IsAnswered asked (file asked.log) given out.old out.new)

-- what the top call answers to these words, over files, a sink for the text and one for the note
pub record IsReported (words : List (List ℕ)) (files : Seen Contents) (out notes : Seen (List ℕ)) (status : Status) : Type 0 where
  pub given : Result (Unit {0}) Stop
  pub answer : IsAnswerTo (form_of words) files out given
  pub status_is : status ≡ status_by given
  pub note : IsNoted words given notes
  pub read_fault : given ≡ Err ReadFault → Rose files.before files.after
  pub write_fault : given ≡ Err WriteFault → Rose out.before out.after
