-- The notes.
use Rattle.std.specs.Prelude.{◌≡◌, ℕ, ⊤, ◌++◌, [], List, Contains, Result, codes}
use Rattle.sig_io.specs.Outside.{Contents}
use Rattle.junction_run.specs.declared.stop.LoadStop.{LoadStop}
use Rattle.junction_run.specs.declared.stop.LoadStop.TheVariants as load
use Rattle.junction_run.specs.declared.stop.PlayStop.{PlayStop}
use Rattle.junction_run.specs.declared.stop.PlayStop.TheVariants as play
use Rattle.junction_run.specs.declared.stop.Stop.{Stop}
use Rattle.junction_run.specs.declared.stop.Stop.TheVariants.{Load, Play}
use Rattle.junction_run.specs.declared.status.Status.{Status}
use Rattle.junction_run.specs.declared.status.Status.TheVariants as status
use Rattle.junction_run.specs.Form.{Form}
use Rattle.junction_run.specs.Loading.{Unloaded, Loads, Reached}
use Rattle.junction_run.specs.Answer.{Answer, answer_to, note_of, line_note}
use Rattle.junction_run.specs.Reasons.{reason_text, line_reason}

-- the note where loading stops
abbrev pub load_note : LoadStop → List ℕ
load_note load.Memory = note_of (codes "Memory")
load_note (load.ReadFault word) = note_of (word.now ++ codes ": ReadFault")
load_note (load.Refused word line reason) = line_note word.now line (reason_text reason)
load_note (load.TooLong word) = note_of (word.now ++ codes ": TooLong")

-- the note where playing stops
abbrev pub play_note : PlayStop → List ℕ
play_note (play.ReadFault word) = note_of (word.now ++ codes ": ReadFault")
play_note play.WriteFault = note_of (codes "WriteFault")
play_note (play.RefusedLine word line reason) = line_note word.now line (line_reason reason)

-- the note of a stop
abbrev pub stop_note : Stop → List ℕ
stop_note (Load stop) = load_note stop
stop_note (Play stop) = play_note stop

-- a note that names one of these files
abbrev pub NamesFile : List (List ℕ) → List ℕ → List ℕ → Type 0
NamesFile files text note = (word : List ℕ) × Contains files word × (note ≡ note_of (word ++ text))

-- a note that names one of these files, a line of it and a reason
abbrev pub NamesLine : List (List ℕ) → List ℕ → Type 0
NamesLine files note =
    (word : List ℕ) × (line : ℕ) × (reason : List ℕ) × Contains files word × (note ≡ line_note word line reason)

-- The note of a status, whatever the files hold; these are named.
abbrev pub IsNote : List (List ℕ) → Status → List ℕ → Type 0
IsNote files status.Done note = note ≡ []
IsNote files status.Memory note = note ≡ note_of (codes "Memory")
IsNote files status.Words note = note ≡ note_of (codes "Words")
IsNote files status.ReadFault note = NamesFile files (codes ": ReadFault") note
IsNote files status.WriteFault note = note ≡ note_of (codes "WriteFault")
IsNote files status.RefusedFile note = NamesLine files note
IsNote files status.RefusedLine note = NamesLine files note
IsNote files status.TooLong note = NamesFile files (codes ": TooLong") note

-- the note is that of the answer
abbrev pub IsAnswersNote : {A : Type 0} → (Result A Unloaded → Type 0) → (Result A Unloaded → Answer) → Status → List ℕ → Type 0
IsAnswersNote {A} Gives answer status note =
    (r : Result A Unloaded) × Gives r × ((answer r).status ≡ status) × (note ≡ (answer r).note)

-- The note of a status that tells of what the files hold: the answer's, and a file that can't be read is one that the command
-- comes to read.
abbrev pub NoteMeetsBy : {A : Type 0} → (Result A Unloaded → Type 0) → (Result A Unloaded → Answer) → (List ℕ → Type 0) →
    Status → List ℕ → Type 0
NoteMeetsBy Gives answer Reached status.Done note = ⊤
NoteMeetsBy Gives answer Reached status.Memory note = ⊤
NoteMeetsBy Gives answer Reached status.Words note = ⊤
NoteMeetsBy Gives answer Reached status.ReadFault note =
    (word : List ℕ) × Reached word × (note ≡ note_of (word ++ codes ": ReadFault"))
NoteMeetsBy Gives answer Reached status.WriteFault note = ⊤
NoteMeetsBy Gives answer Reached status.RefusedFile note = IsAnswersNote Gives answer status.RefusedFile note
NoteMeetsBy Gives answer Reached status.RefusedLine note = IsAnswersNote Gives answer status.RefusedLine note
NoteMeetsBy Gives answer Reached status.TooLong note = IsAnswersNote Gives answer status.TooLong note

-- the note of a form's status over these files
abbrev pub NoteMeets : Form → Contents → Status → List ℕ → Type 0
NoteMeets form file status note = NoteMeetsBy (Loads form file) (answer_to form file) (Reached form file) status note
