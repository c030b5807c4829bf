-- Laws over the definitions alone.
use Rattle.std.specs.Prelude.{◌≡◌, ◌⊎◌, ℕ, List, Some, Result, Ok, Err}
use Rattle.std.specs.List.{AllByRecursion}
use Rattle.sig_io.specs.Outside.{Contents, Rose}
use Rattle.sig_io.specs.Seen.{Seen}
use Rattle.junction_run.specs.declared.status.Status.{Status}
use Rattle.junction_run.specs.declared.status.Status.TheVariants.{Done, Memory}
use Rattle.junction_run.specs.Answer.{unloaded_answer}
use Rattle.junction_run.specs.Loading.{Unloaded}
use Rattle.junction_net.specs.Jobs.{IsEnd}
use Rattle.junction_net.specs.List.{JobWords}
use Rattle.junction_net.specs.Net.{jobs_at, GivesResults}
use Rattle.junction_net.specs.NetAnswers.{NetAnswer}
use Rattle.junction_net.specs.Results.{JobResult}

-- a list and its files give one thing
abbrev pub GivesOnce : Type 0
GivesOnce = (word : List ℕ) (file : Contents) (r s : Result (List JobResult) Unloaded) → GivesResults word file r →
    GivesResults word file s → r ≡ s

-- and they give something
abbrev pub GivesAlways : Type 0
GivesAlways = (word : List ℕ) (file : Contents) → (r : Result (List JobResult) Unloaded) × GivesResults word file r

-- each junction ends with all done, a refused file or a refused line
abbrev pub EndsAlways : Type 0
EndsAlways = (word : List ℕ) (file : Contents) (rs : List JobResult) → GivesResults word file (Ok rs) →
    AllByRecursion (λ r. IsEnd r.status) rs

-- the status where the list and its files are loaded so
abbrev pub loaded_status : Result (List JobWords) Unloaded → Status
loaded_status (Ok jobs) = Done
loaded_status (Err u) = (unloaded_answer u).status

-- where no count of faults rose, an accepted list whose files are within their limits is done, a list that is refused and a file
-- that is too long is told, or memory was wanted
abbrev pub IsComplete : Type 0
IsComplete =
    (word : List ℕ) (file : Contents) (files : Seen Contents) (out notes : Seen (List ℕ)) (status : Status) →
    files.old ≡ Some file → (Rose files.before files.after → ⊥) → (Rose out.before out.after → ⊥) →
    NetAnswer word files out notes status →
    (status ≡ loaded_status (jobs_at file word)) ⊎ (status ≡ Memory)
