-- What the program answers to its words and its files.
use Rattle.std.specs.Prelude.{◌≡◌, ◌≤◌, ◌⊎◌, ℕ, zero, suc, List, [], ◌∷◌, ◌++◌, length, take, codes, Option, None, Some, Result, Ok, Err}
use Rattle.std.specs.Fmt.{decimal}
use Rattle.std.specs.Io.KnownBytes.{append_known}
use Rattle.sig_io.specs.Outside.{Contents}
use Rattle.sig_io.specs.Draft.{IsCut}
use Rattle.controller.specs.Past.{Site}
use Rattle.det_stream.specs.declared.refusal.StreamWhy.{StreamWhy}
use Rattle.det_stream.specs.Stream.{Stream, stream_of}
use Rattle.log_read.specs.declared.refusal.LogWhy.{LogWhy}
use Rattle.sig_types.specs.Turns.{Picture}
use Rattle.vap_ast.specs.Syntax.{Program}
use Rattle.junction_run.specs.declared.status.Status.{Status}
use Rattle.junction_run.specs.declared.status.Status.TheVariants as status
use Rattle.junction_run.specs.Codes.{IsCompiled}
use Rattle.junction_run.specs.Audited.{IsAudit}
use Rattle.junction_run.specs.Form.{Form, Play, Compile, Sample, Audit}
use Rattle.junction_run.specs.Loading.{Unloaded, TooLong, Refused, Loaded, Loads, Playing}
use Rattle.junction_run.specs.Reasons.{stream_reason}
use Rattle.log_read.specs.Whys.{why_name}
use Rattle.junction_run.specs.Records.{log_of}
use Rattle.junction_run.specs.Sampled.{sample_text}

-- What is answered where memory is found and nothing fails: the status; which text out may have gained after the first piece
-- and so many more; the number of pieces; how many of them may come before the last read; the texts of which a fault of the
-- sink may leave a front; and the note.
pub record Answer : Type 1 where
  pub status : Status
  pub Gained : ℕ → List ℕ → Type 0
  pub pieces : ℕ
  pub before_reads : ℕ
  pub Cut : List ℕ → Type 0
  pub note : List ℕ

-- whatever the number of pieces, the text is empty
abbrev pub nothing : ℕ → List ℕ → Type 0
nothing k text = text ≡ []

-- the text after so many pieces, none at first
abbrev pub GainedBy : (ℕ → List ℕ → Type 0) → ℕ → List ℕ → Type 0
GainedBy Gained zero text = text ≡ []
GainedBy Gained (suc k) text = Gained k text

-- an answer of whose whole text a fault of the sink may leave a front
abbrev pub in_pieces : Status → (ℕ → List ℕ → Type 0) → (pieces before_reads : ℕ) → (note : List ℕ) → Answer
in_pieces status Gained pieces before_reads note = record {
  status = status;
  Gained = Gained;
  pieces = pieces;
  before_reads = before_reads;
  Cut = λ text. GainedBy Gained pieces text;
  note = note;
}

-- a note, with the name of the program before it and its line feed
abbrev pub note_of : List ℕ → List ℕ
note_of text = codes "junction: " ++ text ++ 10 ∷ []

-- FILE:LINE: REASON
abbrev pub line_note : List ℕ → ℕ → List ℕ → List ℕ
line_note word line reason = note_of (word ++ 58 ∷ decimal line ++ codes ": " ++ reason)

-- a status with its note, and nothing for out
abbrev pub stopped : Status → List ℕ → Answer
stopped status note = in_pieces status nothing 0 0 note

-- the answer where a file is too long or is refused: its status and its note, and nothing for out
abbrev pub unloaded_answer : Unloaded → Answer
unloaded_answer (TooLong word) = stopped status.TooLong (note_of (word ++ codes ": TooLong"))
unloaded_answer (Refused word line reason) = stopped status.RefusedFile (line_note word line reason)

-- the detector file ends, or has a first line that is no frame
abbrev pub stream_status : Option (ℕ × StreamWhy) → Status
stream_status None = status.Done
stream_status (Some at) = status.RefusedLine

-- the note of a refused line of the detector file; none where the file ends
abbrev pub stream_note : List ℕ → Option (ℕ × StreamWhy) → List ℕ
stream_note word None = []
stream_note word (Some at) = line_note word at.0 (stream_reason at.1)

-- the log of the frames before the first refused line: the header is the first piece, and each record one more; a line is
-- read before its record is written
abbrev pub log_answer : (detectors : List ℕ) → Playing → Stream → Answer
log_answer detectors playing stream =
    in_pieces (stream_status stream.refusal) (λ k text. text ≡ log_of playing (take k stream.frames))
    (suc (length stream.frames)) (suc (length stream.frames)) (stream_note detectors stream.refusal)

-- the text of a code that does what the program does, in one piece, and no byte before the last read
abbrev pub code_answer : Program → Answer
code_answer program = in_pieces status.Done (λ k text. IsCompiled program text) 1 0 []

-- the summary of the seconds over the drawn frames, in one piece, and no byte before the last read
abbrev pub sample_answer : (seed seconds : ℕ) → Playing → Answer
sample_answer seed seconds playing = in_pieces status.Done (λ k text. text ≡ sample_text seed seconds playing) 1 0 []

-- what is judged of a log that has these pictures and no refused line, in one piece, and no byte before the log's end; or its
-- first refused line
abbrev pub audit_answer : (log : List ℕ) → Site → List Picture → Option (ℕ × LogWhy) → Answer
audit_answer log site pictures None = in_pieces status.Done (λ k text. IsAudit site pictures text) 1 0 []
audit_answer log site pictures (Some at) = stopped status.RefusedLine (line_note log at.0 (why_name at.1))

-- the answer to a form that works on this
abbrev pub loaded_answer : (form : Form) → Contents → Loaded form → Answer
loaded_answer (Play source site detectors) file playing = log_answer detectors playing (stream_of (file detectors))
loaded_answer (Compile program) file tree = code_answer tree
loaded_answer (Sample program site seed seconds) file playing = sample_answer seed seconds playing
loaded_answer (Audit log site) file logged = audit_answer log logged.site logged.pictures logged.refusal

-- this answer, or that to the first file that is not as it must be
abbrev pub answered : {A : Type 0} → (A → Answer) → Result A Unloaded → Answer
answered loaded_to (Ok loaded) = loaded_to loaded
answered loaded_to (Err unloaded) = unloaded_answer unloaded

-- the answer to a form over these files, which give this
abbrev pub answer_to : (form : Form) → Contents → Result (Loaded form) Unloaded → Answer
answer_to form file r = answered (loaded_answer form file) r

-- out gained what so many pieces give
abbrev pub Gains : Answer → ℕ → Option (List ℕ) → Option (List ℕ) → Type 0
Gains a k old new = (text : List ℕ) × GainedBy a.Gained k text × (new ≡ append_known old text)

-- ---- what a command may answer, by what its files give and by the answer to that

-- the answer's own: the files give it, its status is this one, and out gained the whole text
abbrev pub IsAnswered : {A : Type 0} → (Result A Unloaded → Type 0) → (Result A Unloaded → Answer) → Status →
    Option (List ℕ) → Option (List ℕ) → Type 0
IsAnswered {A} Gives answer status old new =
    (r : Result A Unloaded) × Gives r × ((answer r).status ≡ status) × Gains (answer r) (answer r).pieces old new

-- broken off before a read: out gained nothing, or the files give an answer and out gained some of its pieces
abbrev pub IsBroken : {A : Type 0} → (Result A Unloaded → Type 0) → (Result A Unloaded → Answer) → Option (List ℕ) →
    Option (List ℕ) → Type 0
IsBroken {A} Gives answer old new =
    (new ≡ old) ⊎ ((r : Result A Unloaded) × Gives r × (k : ℕ) × (k ≤ (answer r).before_reads) × Gains (answer r) k old new)

-- cut off: out gained a front of such a text, and not all of it
abbrev pub IsCutOff : {A : Type 0} → (Result A Unloaded → Type 0) → (Result A Unloaded → Answer) → Option (List ℕ) →
    Option (List ℕ) → Type 0
IsCutOff {A} Gives answer old new =
    (r : Result A Unloaded) × Gives r × (text : List ℕ) × (answer r).Cut text × (n : ℕ) × IsCut old new n text

-- A status, with what out has gained: the answer's own, or want of memory, or a fault on the way.
abbrev pub MeetsBy : {A : Type 0} → (Result A Unloaded → Type 0) → (Result A Unloaded → Answer) → Status → Option (List ℕ) →
    Option (List ℕ) → Type 0
MeetsBy Gives answer status.Done old new = IsAnswered Gives answer status.Done old new
MeetsBy Gives answer status.Memory old new = new ≡ old
MeetsBy Gives answer status.Words old new = ⊥
MeetsBy Gives answer status.ReadFault old new = IsBroken Gives answer old new
MeetsBy Gives answer status.WriteFault old new = IsCutOff Gives answer old new
MeetsBy Gives answer status.RefusedFile old new = IsAnswered Gives answer status.RefusedFile old new
MeetsBy Gives answer status.RefusedLine old new = IsAnswered Gives answer status.RefusedLine old new
MeetsBy Gives answer status.TooLong old new = IsAnswered Gives answer status.TooLong old new

-- the status of a form over these files, with what out has gained
abbrev pub Meets : Form → Contents → Status → Option (List ℕ) → Option (List ℕ) → Type 0
Meets form file status old new = MeetsBy (Loads form file) (answer_to form file) status old new
