-- How a command ended, over files that tell this.
use Rattle.std.specs.Prelude.{ℕ, List, Option, Result, Ok, Err}
use Rattle.sig_io.specs.Outside.{Contents}
use Rattle.junction_run.specs.declared.status.Status.TheVariants as status
use Rattle.junction_run.specs.declared.stop.Stop.{Stop}
use Rattle.junction_run.specs.Form.{Form}
use Rattle.junction_run.specs.Loading.{Unloaded, Loads, Reached}
use Rattle.junction_run.specs.Answer.{Answer, answer_to, MeetsBy}
use Rattle.junction_run.specs.Notes.{NoteMeetsBy, stop_note}
use Rattle.junction_run.specs.Stop.{status_of}

-- its status, what out gained and its note are those of the answer, but for want of memory and faults
abbrev pub IsEndedBy : {A B : Type 0} → (Result A Unloaded → Type 0) → (Result A Unloaded → Answer) → (List ℕ → Type 0) →
    Result B Stop → Option (List ℕ) → Option (List ℕ) → Type 0
IsEndedBy Gives answer Reached (Ok x) old new = MeetsBy Gives answer status.Done old new
IsEndedBy Gives answer Reached (Err stop) old new =
    MeetsBy Gives answer (status_of stop) old new × NoteMeetsBy Gives answer Reached (status_of stop) (stop_note stop)

-- the command of a form
abbrev pub IsEnded : {B : Type 0} → Form → Contents → Result B Stop → Option (List ℕ) → Option (List ℕ) → Type 0
IsEnded form file r old new = IsEndedBy (Loads form file) (answer_to form file) (Reached form file) r old new
