-- What a live run answers.
use Rattle.std.specs.Prelude.{◌≡◌, ◌+◌, ◌≤◌, ℕ, [], List, ◌++◌, length, Option, None, Some, Result, Ok}
use Rattle.sig_io.specs.Outside.{Contents}
use Rattle.sig_types.specs.Counts.{Counts}
use Rattle.det_stream.specs.declared.refusal.StreamWhy.{StreamWhy}
use Rattle.det_stream.specs.Stream.{Stream, stream_of}
use Rattle.signal_log.specs.Laws.{ArePrintable, Spells}
use Rattle.controller.specs.Guarded.{IsGuardedRun, pictures_of}
use Rattle.junction_run.specs.declared.status.Status.{Status}
use Rattle.junction_run.specs.declared.status.Status.TheVariants as status
use Rattle.junction_run.specs.Answer.{Answer, MeetsBy, answered, stopped, stream_note}
use Rattle.junction_run.specs.Loading.{Playing, Unloaded, LoadsProgram, ReachedInPlay}
use Rattle.junction_run.specs.Notes.{NoteMeetsBy}
use Rattle.junction_run.specs.Records.{records_of, log_of}
use Rattle.junction_live.specs.Form.{LiveWords}
use Rattle.junction_live.specs.Play.{NeverAhead, SameSums, NoMore}
use Rattle.junction_live.specs.Sights.{Sight, AreSights, watches_from}

-- A text is the log of seconds with these frames, and of no others: they are what its COUNTS fields spell.
pub record TellsFrames (names : List (List ℕ)) (text : List ℕ) (frames : List Counts) : Type 0 where
  pub spells : Spells names text frames
  pub only : (others : List Counts) → ArePrintable others → Spells names text others → others ≡ frames

-- A text is the whole log of a live run over the frames of a detector file: one second more than these, with each of their
-- events in one of the seconds, and none ahead of its time. The guard's rules are kept in it.
pub record IsWholeLog (playing : Playing) (frames : List Counts) (text : List ℕ) : Type 0 where
  -- the frames of the seconds
  pub made : List Counts
  pub count : length made ≡ length frames + 1
  pub printable : ArePrintable made
  pub ahead : NeverAhead made
  pub sums : SameSums frames made
  pub guarded : IsGuardedRun playing.logic playing.site playing.store made
  pub text_is : text ≡ log_of playing made
  pub tells : TellsFrames playing.site.plan.names text made

-- A text is the log of the seconds that a live run over these frames made until a fault of the sink broke it off.
pub record IsBegunLog (playing : Playing) (frames : List Counts) (text : List ℕ) : Type 0 where
  -- the frames of the seconds
  pub made : List Counts
  pub count : length made ≤ length frames + 1
  pub ahead : NeverAhead made
  pub sums : NoMore frames made
  pub guarded : IsGuardedRun playing.logic playing.site playing.store made
  pub text_is : text ≡ log_of playing made

-- A text is the whole log of a live run, and then a line for each watcher, with the log's picture of the second that it saw last.
pub record IsWholeText (watchers : ℕ) (playing : Playing) (frames : List Counts) (text : List ℕ) : Type 0 where
  pub log : List ℕ
  pub whole : IsWholeLog playing frames log
  pub sights : List Sight
  pub seen : AreSights watchers (pictures_of playing.site (records_of playing whole.made)) sights
  pub text_is : text ≡ log ++ watches_from 1 sights

-- A text is one of which a fault of the sink may leave a front: the log of the seconds made until then, or the whole text.
pub data IsBegunText (watchers : ℕ) (playing : Playing) (frames : List Counts) (text : List ℕ) : Type 0 where
  seconds_begun : IsBegunLog playing frames text → IsBegunText watchers playing frames text
  lines_begun : IsWholeText watchers playing frames text → IsBegunText watchers playing frames text

-- the answer over the frames of a detector file that ends, or has this first line that is no frame: a line is refused before
-- anything is written
abbrev pub frames_answer : (watchers : ℕ) (detectors : List ℕ) → Playing → List Counts → Option (ℕ × StreamWhy) → Answer
frames_answer watchers detectors playing frames None = record {
  status = status.Done;
  Gained = λ k text. IsWholeText watchers playing frames text;
  pieces = 1;
  before_reads = 0;
  Cut = λ text. IsBegunText watchers playing frames text;
  note = [];
}
frames_answer watchers detectors playing frames (Some at) = stopped status.RefusedLine (stream_note detectors (Some at))

-- the answer to what is played
abbrev pub live_answer : (watchers : ℕ) (detectors : List ℕ) → Stream → Playing → Answer
live_answer watchers detectors stream playing = frames_answer watchers detectors playing stream.frames stream.refusal

-- what the files of a live run give, each of which is read, measured and judged before the next one
abbrev pub Loads : LiveWords → Contents → Result Playing Unloaded → Type 0
Loads form file r = LoadsProgram form.program form.site file r

-- the answer to the form of a live run over these files, which give this
abbrev pub answer_to : LiveWords → Contents → Result Playing Unloaded → Answer
answer_to form file r = answered (live_answer form.watchers form.detectors (stream_of (file form.detectors))) r

-- a live run comes to read this file: the plan, the times, the intergreens, the program and the detectors come in this order
abbrev pub Reached : LiveWords → Contents → List ℕ → Type 0
Reached form file word = ReachedInPlay form.program form.site form.detectors file (λ playing. Loads form file (Ok playing)) word

-- the status of a live run over these files, with what out has gained
abbrev pub Meets : LiveWords → Contents → Status → Option (List ℕ) → Option (List ℕ) → Type 0
Meets form file status old new = MeetsBy (Loads form file) (answer_to form file) status old new

-- and its note
abbrev pub NoteMeets : LiveWords → Contents → Status → List ℕ → Type 0
NoteMeets form file status note = NoteMeetsBy (Loads form file) (answer_to form file) (Reached form file) status note
