-- The notes and the statuses of a call.
use Rattle.std.specs.Prelude.{ℕ, List, [], ◌∷◌, ◌++◌, codes}
use Rattle.junction_run.specs.declared.status.Status.{Status}
use Rattle.junction_run.specs.declared.status.Status.TheVariants as status
use Rattle.junction_run.specs.Notes as run
use Rattle.junction_run.specs.Stop as run_stop
use Rattle.trace_call.specs.declared.stop.Stop.{Stop}
use Rattle.trace_call.specs.declared.stop.Stop.TheVariants.{Words, NoName, Run}

-- the status of a stop
abbrev pub status_of : Stop → Status
status_of Words = status.Words
status_of (NoName word nearest) = status.Words
status_of (Run stop) = run_stop.status_of stop

-- the nearest name, if there is one
abbrev pub nearest_text : List ℕ → List ℕ
nearest_text [] = []
nearest_text (b ∷ bs) = codes ", nearest " ++ b ∷ bs

-- the note of a stop: one of a file, of memory or of a fault is that of `junction`
abbrev pub stop_note : Stop → List ℕ
stop_note Words = codes "junction_trace: Words\n"
stop_note (NoName word nearest) =
    codes "junction_trace: " ++ word.now ++ codes ": NoName" ++ nearest_text nearest.items ++ codes "\n"
stop_note (Run stop) = run.stop_note stop
