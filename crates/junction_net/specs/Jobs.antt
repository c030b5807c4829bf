-- The runs of the junctions of a list.
use Rattle.std.specs.Prelude.{◌≡◌, ◌<◌, ℕ, List, Some, [], ◌∷◌, length, map, codes, string_bytes, slice_index_or}
use Rattle.sig_io.specs.Memory.{contents_of}
use Rattle.sig_io.specs.Seen.{seen}
use Rattle.junction_run.specs.declared.status.Status.{Status}
use Rattle.junction_run.specs.declared.status.Status.TheVariants as status
use Rattle.junction_run.specs.Answers.{JunctionAnswers}
use Rattle.junction_net.specs.declared.jobs.Job.{Job}
use Rattle.junction_net.specs.List.{JobWords}
use Rattle.junction_net.specs.Results.{JobResult}

-- the words of a junction's run
abbrev pub run_words : JobWords → List (List ℕ)
run_words job = codes "run" ∷ job.program ∷ job.plan ∷ job.times ∷ job.intergreens ∷ job.detectors ∷ []

-- the job is to run this junction, and has written nothing
pub record IsReady (words : JobWords) (job : Job) : Type 0 where
  pub words_are : map string_bytes job.words.items ≡ run_words words
  pub log : job.log.bytes.items ≡ []
  pub note : job.note.bytes.items ≡ []
  pub faults : job.note.faults ≡ 0

-- there is a job for each junction, in the order of the list
abbrev pub AreReady : List JobWords → List Job → Type 0
AreReady [] [] = Unit {0}
AreReady [] (job ∷ jobs) = ⊥
AreReady (words ∷ list) [] = ⊥
AreReady (words ∷ list) (job ∷ jobs) = IsReady words job × AreReady list jobs

-- the job's run was made: it answers as the top call does to these words, over the job's own files and sinks
pub record Ran (old new : Job) : Type 0 where
  pub answers : JunctionAnswers (map string_bytes old.words.items)
      (seen (Some (contents_of old.files.files.items)) (Some (contents_of new.files.files.items)) 0 0)
      (seen (Some old.log.bytes.items) (Some new.log.bytes.items) old.log.faults new.log.faults)
      (seen (Some old.note.bytes.items) (Some new.note.bytes.items) old.note.faults new.note.faults)
      new.status

-- each of these jobs ran
abbrev pub HaveRun : List Job → List Job → Type 0
HaveRun old new = (k : ℕ) (d : Job) → k < length old → Ran (slice_index_or old k d) (slice_index_or new k d)

-- the statuses of a run over files that can be read, where memory is found: all was done, a file or a line is refused
abbrev pub IsEnd : Status → Type 0
IsEnd status.Done = Unit {0}
IsEnd status.Memory = ⊥
IsEnd status.Words = ⊥
IsEnd status.ReadFault = ⊥
IsEnd status.WriteFault = ⊥
IsEnd status.RefusedFile = Unit {0}
IsEnd status.RefusedLine = Unit {0}
IsEnd status.TooLong = ⊥

-- the job's run came to its end, and its note was taken whole
pub record HasAnswered (job : Job) : Type 0 where
  pub ends : IsEnd job.status
  pub faults : job.note.faults ≡ 0

-- what the run of a job answered
abbrev pub result_of : Job → JobResult
result_of job = record { status = job.status; log = job.log.bytes.items; note = job.note.bytes.items }
