-- Words and files settle what the forms of `log_report` answer that judge a log, where nothing fails and memory is found.
use Rattle.std.specs.Prelude.{◌≡◌, ℕ, List}
use Rattle.sig_io.specs.Outside.{Contents}
use Rattle.sig_io.specs.Seen.{Seen}
use Rattle.report_words.specs.declared.status.Status.{Status}
use Rattle.report_words.specs.declared.status.Status.TheVariants.{Memory}
use Rattle.report_judged.specs.BreachCall as breach
use Rattle.report_judged.specs.ProtocolCall as protocol
use Rattle.report_judged.specs.RefusalCall as refusal
use Rattle.laws.specs.OneAnswer.{BeginAlike, Call, EndAlike, WentWell, WroteAlike}

-- two calls with the same words over the same files, of which this tells the answers, have one status, one text and one note
abbrev pub HasOneAnswer : (List (List ℕ) → Seen Contents → Seen (List ℕ) → Seen (List ℕ) → Status → Type 0) → Type 0
HasOneAnswer IsAnswer =
    (words : List (List ℕ)) (file : Contents) (call other : Call) (status other_status : Status) → BeginAlike file call other →
    WentWell call → WentWell other → (status ≡ Memory → ⊥) → (other_status ≡ Memory → ⊥) →
    IsAnswer words call.files call.out call.notes status → IsAnswer words other.files other.out other.notes other_status →
    EndAlike call other status other_status × WroteAlike call other

-- so have calls of `breaches`: the breaches told, or the first file or line that is refused
abbrev pub BreachesHaveOneAnswer : Type 0
BreachesHaveOneAnswer = HasOneAnswer breach.IsReported

-- of `protocol`
abbrev pub ProtocolHasOneAnswer : Type 0
ProtocolHasOneAnswer = HasOneAnswer protocol.IsReported

-- and of `refusals`
abbrev pub RefusalsHaveOneAnswer : Type 0
RefusalsHaveOneAnswer = HasOneAnswer refusal.IsReported
