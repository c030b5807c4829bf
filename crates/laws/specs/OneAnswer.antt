-- Words and files settle what a call of `junction` answers, where nothing fails and memory is found.
use Rattle.std.specs.Prelude.{◌≡◌, ℕ, Bool, true, false, List, Option, None, Some, Ok}
use Rattle.std.specs.Io.KnownBytes.{append_known}
use Rattle.sig_io.specs.Outside.{Contents, Rose}
use Rattle.sig_io.specs.Seen.{Seen}
use Rattle.vap_ast.specs.Syntax.{Program}
use Rattle.junction_run.specs.declared.status.Status.{Status}
use Rattle.junction_run.specs.declared.status.Status.TheVariants.{Done, Memory}
use Rattle.junction_run.specs.Answers.{JunctionAnswers}
use Rattle.junction_run.specs.Codes.{IsCompiled}
use Rattle.junction_run.specs.Form.{Form, Audit, Compile, Play, ProgramFile, Sample, form_of}
use Rattle.junction_run.specs.Loading.{IsSource}

-- ---- two calls

-- what is seen of a call: its files, what it writes, and what it notes
pub record Call : Type 0 where
  pub files : Seen Contents
  pub out : Seen (List ℕ)
  pub notes : Seen (List ℕ)

-- no count of faults rose in it
pub record WentWell (call : Call) : Type 0 where
  pub read : Rose call.files.before call.files.after → ⊥
  pub written : Rose call.out.before call.out.after → ⊥
  pub noted : Rose call.notes.before call.notes.after → ⊥

-- two calls begin over files that tell the same, and with the same written and noted so far
pub record BeginAlike (file : Contents) (call other : Call) : Type 0 where
  pub files : call.files.old ≡ Some file
  pub other_files : other.files.old ≡ Some file
  pub out : call.out.old ≡ other.out.old
  pub notes : call.notes.old ≡ other.notes.old

-- two calls end with the same status and the same note
pub record EndAlike {S : Type 0} (call other : Call) (status other_status : S) : Type 0 where
  pub status_is : status ≡ other_status
  pub note_is : call.notes.new ≡ other.notes.new

-- they have written the same
abbrev pub WroteAlike : Call → Call → Type 0
WroteAlike call other = call.out.new ≡ other.out.new

-- a text has been written
abbrev pub Wrote : List ℕ → Call → Type 0
Wrote text call = call.out.new ≡ append_known call.out.old text

-- ---- `run`, `exec`, `compile`, `sample` and `audit`

-- the words ask for the code of a program
abbrev pub compiles : Option Form → Bool
compiles None = false
compiles (Some (Play source site detectors)) = false
compiles (Some (Compile program)) = true
compiles (Some (Sample program site seed seconds)) = false
compiles (Some (Audit log site)) = false

-- Two calls with the same words over the same files have one status and one note, and but for `compile` they write one text: the log
-- up to the detector file's end or first refused line, the summary, or what is judged.
abbrev pub JunctionHasOneAnswer : Type 0
JunctionHasOneAnswer =
    (words : List (List ℕ)) (file : Contents) (call other : Call) (status other_status : Status) → BeginAlike file call other →
    WentWell call → WentWell other → (status ≡ Memory → ⊥) → (other_status ≡ Memory → ⊥) →
    JunctionAnswers words call.files call.out call.notes status → JunctionAnswers words other.files other.out other.notes other_status →
    EndAlike call other status other_status × (compiles (form_of words) ≡ false → WroteAlike call other)

-- What `compile` leaves open: two calls over the same file that are done write texts of codes of one program, the one that is
-- written in the file, and each of these codes does in each pass what that program does.
abbrev pub CompiledIsOneProgram : Type 0
CompiledIsOneProgram =
    (words : List (List ℕ)) (program : List ℕ) (file : Contents) (call other : Call) → form_of words ≡ Some (Compile program) →
    BeginAlike file call other → JunctionAnswers words call.files call.out call.notes Done →
    JunctionAnswers words other.files other.out other.notes Done →
    (tree : Program) × IsSource (ProgramFile program) (file program) (Ok tree)
    × (text : List ℕ) × IsCompiled tree text × Wrote text call
    × (other_text : List ℕ) × IsCompiled tree other_text × Wrote other_text other
