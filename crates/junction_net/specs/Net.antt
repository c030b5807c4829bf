-- What is answered to a list of junctions.
use Rattle.std.specs.Prelude.{◌≡◌, ℕ, List, [], ◌∷◌, ◌++◌, codes, Option, None, Some, Result, Ok, Err}
use Rattle.sig_io.specs.Outside.{Contents}
use Rattle.junction_run.specs.declared.status.Status.{Status}
use Rattle.junction_run.specs.declared.status.Status.TheVariants as status
use Rattle.junction_run.specs.Answer.{Answer, MeetsBy, answered, in_pieces, note_of}
use Rattle.junction_run.specs.Loading.{Unloaded, Refusal, TooLong, judged, ◌>>=◌}
use Rattle.junction_run.specs.Notes.{NamesLine, NoteMeetsBy}
use Rattle.junction_net.specs.declared.rows.ListWhy.{ListWhy}
use Rattle.junction_net.specs.declared.rows.ListWhy.TheVariants.{Row, Limit}
use Rattle.junction_net.specs.List.{JobWords, list_refusal, jobs_of}
use Rattle.junction_net.specs.Load.{files_of_jobs, first_long, ReachedIn}
use Rattle.junction_net.specs.Results.{JobResult, AreResults, net_text, net_notes}

-- the reason of a refused list, as a note tells it
abbrev pub list_reason : ListWhy → List ℕ
list_reason Row = codes "Row"
list_reason Limit = codes "Limit"

-- a refusal of a list with its reason
abbrev pub told_refusal : Option (ℕ × ListWhy) → Option Refusal
told_refusal None = None
told_refusal (Some at) = Some (at.0, list_reason at.1)

-- the list is measured and judged
abbrev pub list_at : Contents → List ℕ → Result (List JobWords) Unloaded
list_at file word = judged word (file word) (told_refusal (list_refusal (file word))) (jobs_of (file word))

-- the junctions, unless this file of theirs is too long
abbrev pub unless_long : List JobWords → Option (List ℕ) → Result (List JobWords) Unloaded
unless_long jobs None = Ok jobs
unless_long jobs (Some word) = Err (TooLong word)

-- the junctions, unless one of their files is too long
abbrev pub measured : Contents → List JobWords → Result (List JobWords) Unloaded
measured file jobs = unless_long jobs (first_long file (files_of_jobs jobs))

-- the list, and then all files of its junctions are measured
abbrev pub jobs_at : Contents → List ℕ → Result (List JobWords) Unloaded
jobs_at file word = list_at file word >>= measured file

-- what junctions that were loaded so answer, or the first file that is not as it must be
abbrev pub ResultsOf : Contents → Result (List JobWords) Unloaded → Result (List JobResult) Unloaded → Type 0
ResultsOf file loaded (Ok rs) = (jobs : List JobWords) × (loaded ≡ Ok jobs) × AreResults file jobs rs
ResultsOf file loaded (Err u) = loaded ≡ Err u

-- what the list and the files that it names give: what each junction answers, or the first file that is not as it must be
abbrev pub GivesResults : List ℕ → Contents → Result (List JobResult) Unloaded → Type 0
GivesResults word file r = ResultsOf file (jobs_at file word) r

-- the answer to these results: their text in one piece, and no byte before the last read
abbrev pub net_answer : List JobResult → Answer
net_answer rs = in_pieces status.Done (λ k text. text ≡ net_text rs) 1 0 (net_notes rs)

-- the call comes to read this file: the list, or one of the files that it names, once all before it were within their limits
pub data Reached (word : List ℕ) (file : Contents) : List ℕ → Type 0 where
  at_list : Reached word file word
  at_file : (jobs : List JobWords) (name : List ℕ) → list_at file word ≡ Ok jobs → ReachedIn file (files_of_jobs jobs) name →
      Reached word file name

-- the status over these files, with what out has gained
abbrev pub Meets : List ℕ → Contents → Status → Option (List ℕ) → Option (List ℕ) → Type 0
Meets word file status old new = MeetsBy (GivesResults word file) (answered net_answer) status old new

-- The note of a status, whatever the files hold.
abbrev pub IsNetNote : List ℕ → Status → List ℕ → Type 0
IsNetNote word status.Done note = Unit {0}
IsNetNote word status.Memory note = note ≡ note_of (codes "Memory")
IsNetNote word status.Words note = note ≡ note_of (codes "Words")
IsNetNote word status.ReadFault note = (name : List ℕ) × (note ≡ note_of (name ++ codes ": ReadFault"))
IsNetNote word status.WriteFault note = note ≡ note_of (codes "WriteFault")
IsNetNote word status.RefusedFile note = NamesLine (word ∷ []) note
IsNetNote word status.RefusedLine note = ⊥
IsNetNote word status.TooLong note = (name : List ℕ) × (note ≡ note_of (name ++ codes ": TooLong"))

-- the notes are those of the results
abbrev pub TellsResults : List ℕ → Contents → List ℕ → Type 0
TellsResults word file note = (rs : List JobResult) × GivesResults word file (Ok rs) × (note ≡ net_notes rs)

-- The note of a status that tells of what the files hold: with Done the notes of the junctions.
abbrev pub NoteMeets : List ℕ → Contents → Status → List ℕ → Type 0
NoteMeets word file status.Done note = TellsResults word file note
NoteMeets word file status.Memory note = Unit {0}
NoteMeets word file status.Words note = Unit {0}
NoteMeets word file status.ReadFault note =
    NoteMeetsBy (GivesResults word file) (answered net_answer) (Reached word file) status.ReadFault note
NoteMeets word file status.WriteFault note = Unit {0}
NoteMeets word file status.RefusedFile note =
    NoteMeetsBy (GivesResults word file) (answered net_answer) (Reached word file) status.RefusedFile note
NoteMeets word file status.RefusedLine note = ⊥
NoteMeets word file status.TooLong note =
    NoteMeetsBy (GivesResults word file) (answered net_answer) (Reached word file) status.TooLong note
