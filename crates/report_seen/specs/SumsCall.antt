-- What a call answers.
use Rattle.std.specs.Prelude.{◌≡◌, ℕ, Bool, false, List, [], Option, None, Some, MatchOption, Result, Ok, Err, if◌then◌else◌}
use Rattle.std.specs.Option.{ForSome}
use Rattle.std.specs.Io.KnownBytes.{append_known}
use Rattle.sig_io.specs.Draft.{IsCut}
use Rattle.sig_io.specs.Outside.{Contents, Rose}
use Rattle.sig_io.specs.Seen.{Seen}
use Rattle.report_seen.specs.declared.stop.Status.{Status}
use Rattle.report_seen.specs.declared.stop.Stop.{Stop}
use Rattle.report_seen.specs.declared.stop.Stop.TheVariants.{Memory, Words, TooManySeconds, ReadFault, WriteFault, Line, LogEnds}
use Rattle.report_seen.specs.DiagramCall.{IsNoted, status_by}
use Rattle.log_read.specs.Log.{HasEntries}
use Rattle.log_read.specs.Readings.{records_by}
use Rattle.log_read.specs.Watchers.{told_lines}
use Rattle.log_sums.specs.declared.serves.Serve.{Serve}
use Rattle.log_sums.specs.declared.sums.LogSums.{LogSums}
use Rattle.log_sums.specs.Serves.{serves_of}
use Rattle.sums_text.specs.Parts.{parts_table, parts_text}
use Rattle.sums_text.specs.Table.{table_text}
use Rattle.sums_text.specs.Words.{sums_text}
use Rattle.report_seen.specs.SumsForm.{Asked, form_of}
use Rattle.report_seen.specs.Serves.{serves_for}
use Rattle.report_seen.specs.Summed.{AreSumsIn, ArePartsIn, IsUnsummed}

-- what is written of sums: a table, or lines
abbrev pub written_text : Bool → List (List ℕ) → LogSums → List ℕ
written_text csv names sums = if csv then table_text names sums else sums_text names sums

-- what is written of the sums of parts
abbrev pub written_parts : Bool → List (List ℕ) → List LogSums → List ℕ
written_parts csv names parts = if csv then parts_table names parts else parts_text names parts

-- the text of what the seconds of the log add up to, all of whose lines are accepted
pub record IsWhole (asked : Asked) (file : Contents) (text : List ℕ) : Type 0 where
  pub names : List (List ℕ)
  pub sums : LogSums
  pub serves : List Serve
  pub named : serves_for names asked.serves ≡ Some serves
  pub sums_are : AreSumsIn names (file asked.log) asked.from asked.to sums
  pub serves_are : serves_of sums.serves.items ≡ serves
  pub text_is : text ≡ written_text asked.csv names sums

-- the text of what the parts of these seconds add up to that have so many
pub record IsOfParts (asked : Asked) (each : ℕ) (file : Contents) (text : List ℕ) : Type 0 where
  pub names : List (List ℕ)
  pub parts : List LogSums
  pub serves : List Serve
  pub named : serves_for names asked.serves ≡ Some serves
  pub parts_are : ArePartsIn names (file asked.log) asked.from each asked.to serves parts
  pub text_is : text ≡ written_parts asked.csv names parts

-- the text that is asked for, of files with these contents
abbrev pub IsTextOf : Asked → Contents → List ℕ → Type 0
IsTextOf asked file text = MatchOption asked.each (IsWhole asked file text) (λ each. IsOfParts asked each file text)

-- the header of the log is accepted, and names no such group as detectors are said to serve
abbrev pub LacksGroup : List ℕ → List (List ℕ) → Type 0
LacksGroup bytes serves =
    (names : List (List ℕ)) × (HasEntries (records_by false names) 1 (told_lines bytes) 1 [] × (serves_for names serves ≡ None))

-- where a call stops: nothing is written, but where the sink fails while the text is written; a group that is lacking is told before
-- a line that is refused
abbrev pub IsStopped : Asked → Contents → Stop → Option (List ℕ) → Option (List ℕ) → Type 0
IsStopped asked file Memory old new = new ≡ old
IsStopped asked file Words old new = (new ≡ old) × LacksGroup (file asked.log) asked.serves
IsStopped asked file TooManySeconds old new = ⊥
IsStopped asked file ReadFault old new = new ≡ old
IsStopped asked file WriteFault old new = (text : List ℕ) × IsTextOf asked file text × ((n : ℕ) × IsCut old new n text)
IsStopped asked file (Line line why) old new =
    (new ≡ old) × IsUnsummed (file asked.log) (Line line why) × (LacksGroup (file asked.log) asked.serves → ⊥)
IsStopped asked file (LogEnds last) old new = ⊥

-- what a call gives that asks for this, of files with these contents
abbrev pub IsAnswered : Asked → Contents → Result (Unit {0}) Stop → Option (List ℕ) → Option (List ℕ) → Type 0
IsAnswered asked file (Ok x) old new = (text : List ℕ) × IsTextOf asked file text × (new ≡ append_known old text)
IsAnswered asked file (Err stop) old new = IsStopped asked file stop old new

-- words that are no form are not answered; what a form asks for is answered where the files tell what they hold
abbrev pub IsAnswerTo : Option Asked → Seen Contents → Seen (List ℕ) → Result (Unit {0}) Stop → Type 0
IsAnswerTo None files out given = (given ≡ Err Words) × (out.new ≡ out.old)
IsAnswerTo (Some asked) files out given = ForSome files.old (λ file. IsAnswered asked file given out.old out.new)

-- what the top call answers to these words, over files, a sink for the text and one for the note
pub record IsReported (words : List (List ℕ)) (files : Seen Contents) (out notes : Seen (List ℕ)) (status : Status) : Type 0 where
  pub given : Result (Unit {0}) Stop
  pub answer : IsAnswerTo (form_of words) files out given
  pub status_is : status ≡ status_by given
  pub note : IsNoted words given notes
  pub read_fault : given ≡ Err ReadFault → Rose files.before files.after
  pub write_fault : given ≡ Err WriteFault → Rose out.before out.after
