-- Words and files settle what a call of `net` answers, and of a live run all but its interleaving.
use Rattle.std.specs.Prelude.{◌≡◌, ℕ, List, Some, Ok}
use Rattle.sig_io.specs.Outside.{Contents}
use Rattle.det_stream.specs.Stream.{stream_of}
use Rattle.junction_run.specs.declared.status.Status.{Status}
use Rattle.junction_run.specs.declared.status.Status.TheVariants.{Done, Memory}
use Rattle.junction_run.specs.Loading.{LoadsProgram, Playing}
use Rattle.junction_live.specs.Answer.{IsWholeText}
use Rattle.junction_live.specs.Answers.{LiveAnswers}
use Rattle.junction_live.specs.Form.{LiveWords, live_form}
use Rattle.junction_net.specs.NetAnswers.{NetAnswers}
use Rattle.laws.specs.OneAnswer.{BeginAlike, Call, EndAlike, WentWell, Wrote, WroteAlike}

-- ---- `net`

-- two calls of `net` with the same list over the same files have one status, one text and one note
abbrev pub NetHasOneAnswer : Type 0
NetHasOneAnswer =
    (words : List (List ℕ)) (file : Contents) (call other : Call) (status other_status : Status) → BeginAlike file call other →
    WentWell call → WentWell other → (status ≡ Memory → ⊥) → (other_status ≡ Memory → ⊥) →
    NetAnswers words call.files call.out call.notes status → NetAnswers words other.files other.out other.notes other_status →
    EndAlike call other status other_status × WroteAlike call other

-- ---- `live`

-- Two live runs over the same files have one status and one note. Where they are not done both have written nothing.
abbrev pub LiveHasOneEnd : Type 0
LiveHasOneEnd =
    (words : List (List ℕ)) (file : Contents) (call other : Call) (status other_status : Status) → BeginAlike file call other →
    WentWell call → WentWell other → (status ≡ Memory → ⊥) → (other_status ≡ Memory → ⊥) →
    LiveAnswers words call.files call.out call.notes status → LiveAnswers words other.files other.out other.notes other_status →
    EndAlike call other status other_status × ((status ≡ Done → ⊥) → WroteAlike call other)

-- What their interleaving leaves open: where they are done, both have written whole texts of one program at one site over the
-- frames of one detector file, and only the seconds in which events stand, and what watchers saw, may differ.
abbrev pub LiveIsOneProgram : Type 0
LiveIsOneProgram =
    (words : List (List ℕ)) (form : LiveWords) (file : Contents) (call other : Call) → live_form words ≡ Some form →
    BeginAlike file call other → LiveAnswers words call.files call.out call.notes Done →
    LiveAnswers words other.files other.out other.notes Done →
    (playing : Playing) × LoadsProgram form.program form.site file (Ok playing)
    × (text : List ℕ) × IsWholeText form.watchers playing (stream_of (file form.detectors)).frames text × Wrote text call
    × (other_text : List ℕ) × IsWholeText form.watchers playing (stream_of (file form.detectors)).frames other_text
    × Wrote other_text other
