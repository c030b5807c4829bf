-- What a call of `log_report breaches` answers.
use Rattle.std.specs.Prelude.{◌≡◌, ℕ, Bool, true, false, List, [], ◌∷◌, length, Option, None, Some, Result, Ok, Err, if◌then◌else◌}
use Rattle.std.specs.Option.{ForSome}
use Rattle.std.specs.Io.KnownBytes.{append_known}
use Rattle.sig_io.specs.Draft.{IsCut}
use Rattle.sig_io.specs.Outside.{Contents, Rose}
use Rattle.sig_io.specs.Seen.{Seen}
use Rattle.sig_types.specs.Turns.{Picture}
use Rattle.log_judge.specs.declared.breach.Breach.{Breach}
use Rattle.log_judge.specs.Breaches.{breaches}
use Rattle.log_read.specs.Readings.{IsPictures, first_second}
use Rattle.log_read.specs.declared.begin.Begin.TheVariants.{Anywhere}
use Rattle.site_load.specs.Loading.{ReachedInSite, Site, site_of}
use Rattle.site_load.specs.Stop.{IsLoadStop}
use Rattle.report_words.specs.declared.status.Status.{Status}
use Rattle.report_words.specs.declared.status.Status.TheVariants.{Done, Broken}
use Rattle.report_words.specs.declared.stop.JudgeStop.{JudgeStop}
use Rattle.report_words.specs.declared.stop.JudgeStop.TheVariants.{Words, Memory, Site as Unsited, ReadFault, RefusedLine, WriteFault}
use Rattle.report_words.specs.Notes.{stop_note}
use Rattle.report_words.specs.Statuses.{status_of}
use Rattle.judge_text.specs.Lines.{breaches_text}
use Rattle.judge_text.specs.Rows.{table_text}
use Rattle.report_judged.specs.BreachForm.{Asked, form_of}
use Rattle.log_protocol.specs.Came.{unknown_past}
use Rattle.report_judged.specs.BreachesFound.{IsLogStop, IsReadFault, IsWriteFault}

-- there are some
abbrev pub is_some_breach : List Breach → Bool
is_some_breach [] = false
is_some_breach (x ∷ xs) = true

-- breaches as a table or in words, of groups with these names, of a log whose first picture has this second and that has so many
unfoldable pub text_of : Bool → List (List ℕ) → ℕ → ℕ → List Breach → List ℕ
text_of csv names first pictures found = if csv then table_text names first found else breaches_text names first pictures found

-- The text that is asked for, of files with these contents, and whether there are breaches: the plan, the tables and the log are
-- accepted, and the breaches are those of the pictures of the log, with nothing known of what was before them.
pub record IsTold (asked : Asked) (file : Contents) (text : List ℕ) (broken : Bool) : Type 0 where
  pub at : Site
  pub site_is : site_of asked.site file ≡ Ok at
  pub pictures : List Picture
  pub log : IsPictures Anywhere at.plan.names (file asked.log) pictures None
  pub text_is : text ≡ text_of asked.csv at.plan.names (first_second (file asked.log)) (length pictures)
      (breaches at.rules (unknown_past asked.tolerance) pictures)
  pub broken_is : broken ≡ is_some_breach (breaches at.rules (unknown_past asked.tolerance) pictures)

-- the site is accepted, and the log is read no further for this
pub record IsLogUnread (asked : Asked) (file : Contents) (stop : JudgeStop) : Type 0 where
  pub at : Site
  pub site_is : site_of asked.site file ≡ Ok at
  pub stop_is : IsLogStop at.plan.names asked.log (file asked.log) stop

-- why there is no such text
abbrev pub HasNoText : Asked → Contents → JudgeStop → Type 0
HasNoText asked file Words = ⊥
HasNoText asked file Memory = Unit {0}
HasNoText asked file (Unsited stop) = IsLoadStop (λ word. ReachedInSite asked.site file word) stop (site_of asked.site file)
HasNoText asked file (ReadFault word) = IsLogUnread asked file (ReadFault word)
HasNoText asked file (RefusedLine word line why) = IsLogUnread asked file (RefusedLine word line why)
HasNoText asked file WriteFault = ⊥

-- where a call stops: nothing is written, but where the sink fails while the text is written
abbrev pub IsStopped : Asked → Contents → JudgeStop → Option (List ℕ) → Option (List ℕ) → Type 0
IsStopped asked file Words old new = ⊥
IsStopped asked file Memory old new = new ≡ old
IsStopped asked file (Unsited stop) old new = (new ≡ old) × HasNoText asked file (Unsited stop)
IsStopped asked file (ReadFault word) old new = (new ≡ old) × HasNoText asked file (ReadFault word)
IsStopped asked file (RefusedLine word line why) old new = (new ≡ old) × HasNoText asked file (RefusedLine word line why)
IsStopped asked file WriteFault old new =
    (text : List ℕ) × ((broken : Bool) × (IsTold asked file text broken × ((n : ℕ) × IsCut old new n text)))

-- what a call gives that asks for this, of files with these contents
abbrev pub IsAnswered : Asked → Contents → Result Bool JudgeStop → Option (List ℕ) → Option (List ℕ) → Type 0
IsAnswered asked file (Ok broken) old new = (text : List ℕ) × (IsTold asked file text broken × (new ≡ append_known old text))
IsAnswered asked file (Err stop) old new = IsStopped asked file stop old new

-- how a call ends that was done
abbrev pub done_with : Bool → Status
done_with true = Broken
done_with false = Done

-- how a call ends that gives this
abbrev pub status_by : Result Bool JudgeStop → Status
status_by (Ok broken) = done_with broken
status_by (Err stop) = status_of stop

-- the note of a call that gives this: none where all was done
abbrev pub IsNoted : Result Bool JudgeStop → Seen (List ℕ) → Type 0
IsNoted (Ok broken) notes = notes.new ≡ notes.old
IsNoted (Err stop) notes = (Rose notes.before notes.after → ⊥) → notes.new ≡ append_known notes.old (stop_note stop)

-- words that are no form are not answered; what a form asks for is answered where the files tell what they hold
abbrev pub IsAnswerTo : Option Asked → Seen Contents → Seen (List ℕ) → Result Bool JudgeStop → Type 0
IsAnswerTo None files out given = (given ≡ Err Words) × (out.new ≡ out.old)
IsAnswerTo (Some asked) files out given = ForSome files.old (λ file. IsAnswered asked file given out.old out.new)

-- what the top call answers to these words, over files, a sink for the text and one for the note
pub record IsReported (words : List (List ℕ)) (files : Seen Contents) (out notes : Seen (List ℕ)) (status : Status) : Type 0 where
  pub given : Result Bool JudgeStop
  pub answer : IsAnswerTo (form_of words) files out given
  pub status_is : status ≡ status_by given
  pub note : IsNoted given notes
  pub read_fault : IsReadFault given → Rose files.before files.after
  pub write_fault : IsWriteFault given → Rose out.before out.after
