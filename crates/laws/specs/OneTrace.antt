-- Words and files settle what a call of `junction_trace` answers, where nothing fails and memory is found.
use Rattle.std.specs.Prelude.{◌≡◌, ℕ, List}
use Rattle.sig_io.specs.Outside.{Contents}
use Rattle.junction_run.specs.declared.status.Status.{Status}
use Rattle.junction_run.specs.declared.status.Status.TheVariants.{Memory}
use Rattle.trace_call.specs.Call.{IsTraced}
use Rattle.laws.specs.OneAnswer.{BeginAlike, Call, EndAlike, WentWell, WroteAlike}

-- Two calls with the same words over the same files have one status, one text and one note: of words that are no form, of a name that
-- no value has with the nearest one, of the first file that is refused, and of a refused line of the detector file, up to which the
-- text goes.
abbrev pub TraceHasOneAnswer : Type 0
TraceHasOneAnswer =
    (words : List (List ℕ)) (file : Contents) (call other : Call) (status other_status : Status) → BeginAlike file call other →
    WentWell call → WentWell other → (status ≡ Memory → ⊥) → (other_status ≡ Memory → ⊥) →
    IsTraced words call.files call.out call.notes status → IsTraced words other.files other.out other.notes other_status →
    EndAlike call other status other_status × WroteAlike call other
