-- What the runs of the junctions of a list answer.
use Rattle.std.specs.Prelude.{◌≡◌, ℕ, ◌+◌, List, [], ◌∷◌, ◌++◌, codes, Result}
use Rattle.std.specs.Fmt.{decimal}
use Rattle.std.specs.List.{flat_map}
use Rattle.sig_io.specs.Outside.{Contents}
use Rattle.junction_run.specs.declared.status.Status.{Status}
use Rattle.junction_run.specs.Answer.{answer_to, GainedBy}
use Rattle.junction_run.specs.Form.{SiteWords, Form, Play, ProgramFile}
use Rattle.junction_run.specs.Loading.{Loaded, Loads, Unloaded}
use Rattle.junction_run.specs.Statuses.{number_of}
use Rattle.junction_net.specs.List.{JobWords}

-- the site of a junction
abbrev pub site_words : JobWords → SiteWords
site_words job = record { plan = job.plan; times = job.times; intergreens = job.intergreens }

-- the run of a junction
abbrev pub run_of : JobWords → Form
run_of job = Play (ProgramFile job.program) (site_words job) job.detectors

-- what the run of a junction answered: its status, its log and its note, which is empty where all was done
pub record JobResult : Type 0 where
  pub status : Status
  pub log : List ℕ
  pub note : List ℕ

-- a form over these files is answered so, where nothing fails and memory is found: this is its whole answer
pub record IsResult (form : Form) (file : Contents) (result : JobResult) : Type 0 where
  -- what its files give
  pub given : Result (Loaded form) Unloaded
  pub gives : Loads form file given
  pub status : (answer_to form file given).status ≡ result.status
  pub log : GainedBy (answer_to form file given).Gained (answer_to form file given).pieces result.log
  pub note : result.note ≡ (answer_to form file given).note

-- the run of each junction of a list is answered so
abbrev pub AreResults : Contents → List JobWords → List JobResult → Type 0
AreResults file [] [] = Unit {0}
AreResults file [] (r ∷ rs) = ⊥
AreResults file (job ∷ jobs) [] = ⊥
AreResults file (job ∷ jobs) (r ∷ rs) = IsResult (run_of job) file r × AreResults file jobs rs

-- JUNCTION j STATUS, and then the log
abbrev pub job_text : ℕ → JobResult → List ℕ
job_text j r = codes "JUNCTION " ++ decimal j ++ codes " " ++ decimal (number_of r.status) ++ codes "\n" ++ r.log

-- those of the junctions from number j on
abbrev pub text_from : ℕ → List JobResult → List ℕ
text_from j [] = []
text_from j (r ∷ rs) = job_text j r ++ text_from (j + 1) rs

-- what all junctions answered, in the order of the list
unfoldable pub net_text : List JobResult → List ℕ
net_text rs = text_from 1 rs

-- the notes of those that refused a file or a line, in the same order
abbrev pub net_notes : List JobResult → List ℕ
net_notes rs = flat_map (λ r. r.note) rs
