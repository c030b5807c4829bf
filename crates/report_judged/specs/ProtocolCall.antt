-- What a call answers.
use Rattle.std.specs.Prelude.{◌≡◌, ℕ, List, Option, None, Some, Result, Ok, Err}
use Rattle.std.specs.Option.{ForSome}
use Rattle.std.specs.Io.KnownBytes.{append_known}
use Rattle.sig_io.specs.Draft.{IsCut}
use Rattle.sig_io.specs.Outside.{Contents, Rose}
use Rattle.sig_io.specs.Seen.{Seen}
use Rattle.sig_types.specs.Turns.{Picture}
use Rattle.site_load.specs.Loading.{Site, ReachedInSite, site_of}
use Rattle.site_load.specs.Stop.{IsLoadStop}
use Rattle.site_load.specs.Stop as loading
use Rattle.report_words.specs.declared.status.Status.{Status}
use Rattle.report_words.specs.declared.status.Status.TheVariants.{Done}
use Rattle.report_words.specs.declared.stop.JudgeStop.{JudgeStop}
use Rattle.report_words.specs.declared.stop.JudgeStop.TheVariants as stop
use Rattle.report_words.specs.Notes.{stop_note}
use Rattle.report_words.specs.Statuses.{status_of}
use Rattle.log_read.specs.Answers.{IsFirst}
use Rattle.log_read.specs.Readings.{IsPictures}
use Rattle.log_read.specs.declared.begin.Begin.TheVariants.{Anywhere}
use Rattle.judge_text.specs.declared.tick.Tick.TheVariants.{Second}
use Rattle.log_protocol.specs.Texts.{page_text}
use Rattle.report_judged.specs.ProtocolForm.{Asked, form_of}
use Rattle.report_judged.specs.ProtocolGathered.{IsUnread}

-- The text that is asked for, of files with these contents: the page of the log's pictures, all of which are accepted, by the plan and
-- the tables. Where the log has no second, the number of its first one has no part in the page.
pub record IsTextOf (asked : Asked) (file : Contents) (text : List ℕ) : Type 0 where
  pub site : Site
  pub loaded : site_of asked.site file ≡ Ok site
  pub pictures : List Picture
  pub log : IsPictures Anywhere site.plan.names (file asked.log) pictures None
  pub first : ℕ
  pub first_is : IsFirst Anywhere (file asked.log) pictures first
  pub text_is : text ≡ page_text Second asked.style first site.plan.names site.rules pictures

-- why the log is not read to its end, of which the site is loaded
abbrev pub IsLogStop : Asked → Contents → JudgeStop → Type 0
IsLogStop asked file why = (site : Site) × (site_of asked.site file ≡ Ok site) × IsUnread site.plan.names asked.log (file asked.log) why

-- where a call stops: nothing is written, but where the sink fails while the text is written
abbrev pub IsStopped : Asked → Contents → JudgeStop → Option (List ℕ) → Option (List ℕ) → Type 0
IsStopped asked file stop.Words old new = ⊥
IsStopped asked file stop.Memory old new = new ≡ old
IsStopped asked file (stop.Site why) old new =
    (new ≡ old) × IsLoadStop (ReachedInSite asked.site file) why (site_of asked.site file)
IsStopped asked file (stop.ReadFault word) old new = (new ≡ old) × IsLogStop asked file (stop.ReadFault word)
IsStopped asked file (stop.RefusedLine word line why) old new = (new ≡ old) × IsLogStop asked file (stop.RefusedLine word line why)
IsStopped asked file stop.WriteFault old new = (text : List ℕ) × IsTextOf asked file text × ((n : ℕ) × IsCut old new n text)

-- what a call gives that asks for this, of files with these contents
abbrev pub IsAnswered : Asked → Contents → Result (Unit {0}) JudgeStop → Option (List ℕ) → Option (List ℕ) → Type 0
IsAnswered asked file (Ok x) old new = (text : List ℕ) × IsTextOf asked file text × (new ≡ append_known old text)
IsAnswered asked file (Err why) old new = IsStopped asked file why old new

-- a sink has taken the text, or only its first bytes, and failed
abbrev pub IsWritten : List ℕ → Result (Unit {0}) JudgeStop → Option (List ℕ) → Option (List ℕ) → Type 0
IsWritten text (Ok x) old new = new ≡ append_known old text
IsWritten text (Err why) old new = (why ≡ stop.WriteFault) × ((n : ℕ) × IsCut old new n text)

-- it was stopped by a read that failed
abbrev pub IsReadFault : {A : Type 0} → Result A JudgeStop → Type 0
IsReadFault (Ok x) = ⊥
IsReadFault (Err stop.Words) = ⊥
IsReadFault (Err stop.Memory) = ⊥
IsReadFault (Err (stop.Site why)) = loading.IsReadFault {A = Unit {0}} (Err why)
IsReadFault (Err (stop.ReadFault word)) = Unit {0}
IsReadFault (Err (stop.RefusedLine word line why)) = ⊥
IsReadFault (Err stop.WriteFault) = ⊥

-- it was stopped by a write that failed
abbrev pub IsWriteFault : {A : Type 0} → Result A JudgeStop → Type 0
IsWriteFault (Ok x) = ⊥
IsWriteFault (Err stop.Words) = ⊥
IsWriteFault (Err stop.Memory) = ⊥
IsWriteFault (Err (stop.Site why)) = ⊥
IsWriteFault (Err (stop.ReadFault word)) = ⊥
IsWriteFault (Err (stop.RefusedLine word line why)) = ⊥
IsWriteFault (Err stop.WriteFault) = Unit {0}

-- how a call ends that gives this
abbrev pub status_by : Result (Unit {0}) JudgeStop → Status
status_by (Ok x) = Done
status_by (Err why) = status_of why

-- the note of a call that gives this: none where all was done
abbrev pub IsNoted : Result (Unit {0}) JudgeStop → Seen (List ℕ) → Type 0
IsNoted (Ok x) notes = notes.new ≡ notes.old
IsNoted (Err why) notes = (Rose notes.before notes.after → ⊥) → notes.new ≡ append_known notes.old (stop_note why)

-- words that are no form are not answered; what a form asks for is answered where the files tell what they hold
abbrev pub IsAnswerTo : Option Asked → Seen Contents → Seen (List ℕ) → Result (Unit {0}) JudgeStop → Type 0
IsAnswerTo None files out given = (given ≡ Err stop.Words) × (out.new ≡ out.old)
IsAnswerTo (Some asked) files out given = ForSome files.old (λ file. IsAnswered asked file given out.old out.new)

-- what the top call answers to these words, over files, a sink for the text and one for the note
pub record IsReported (words : List (List ℕ)) (files : Seen Contents) (out notes : Seen (List ℕ)) (status : Status) : Type 0 where
  pub given : Result (Unit {0}) JudgeStop
  pub answer : IsAnswerTo (form_of words) files out given
  pub status_is : status ≡ status_by given
  pub note : IsNoted given notes
  pub read_fault : IsReadFault given → Rose files.before files.after
  pub write_fault : IsWriteFault given → Rose out.before out.after
