-- Words and files settle what the forms of `log_report` answer that show a log, where nothing fails and memory is found.
use Rattle.std.specs.Prelude.{◌≡◌, ℕ, List}
use Rattle.sig_io.specs.Outside.{Contents}
use Rattle.sig_io.specs.Seen.{Seen}
use Rattle.report_seen.specs.declared.stop.Status.TheVariants.{Memory}
use Rattle.report_seen.specs.CompareCall as compare
use Rattle.report_seen.specs.DiagramCall as diagram
use Rattle.report_seen.specs.LostCall as lost
use Rattle.report_seen.specs.SumsCall as sums
use Rattle.report_words.specs.declared.status.Status.TheVariants as words
use Rattle.laws.specs.OneAnswer.{BeginAlike, Call, EndAlike, WentWell, WroteAlike}

-- two calls with the same words over the same files, of which this tells the answers, have one status, one text and one note, where
-- neither has the status of want of memory
abbrev pub SettlesAnswers : {S : Type 0} → S → (List (List ℕ) → Seen Contents → Seen (List ℕ) → Seen (List ℕ) → S → Type 0) → Type 0
SettlesAnswers {S} memory IsAnswer =
    (words : List (List ℕ)) (file : Contents) (call other : Call) (status other_status : S) → BeginAlike file call other →
    WentWell call → WentWell other → (status ≡ memory → ⊥) → (other_status ≡ memory → ⊥) →
    IsAnswer words call.files call.out call.notes status → IsAnswer words other.files other.out other.notes other_status →
    EndAlike call other status other_status × WroteAlike call other

-- so have calls of `diagram` and `text`, and of the help and the version: the picture of the seconds asked for, or the first line
-- that is refused, or where the log ends before them
abbrev pub DiagramsHaveOneAnswer : Type 0
DiagramsHaveOneAnswer = SettlesAnswers Memory diagram.IsReported

-- and calls that tell lost starts
abbrev pub LostHasOneAnswer : Type 0
LostHasOneAnswer = SettlesAnswers Memory lost.IsReported

-- of `sums`, of a whole log or of its parts, as text or as a table: also where the header lacks a group that detectors are said to serve
abbrev pub SumsHaveOneAnswer : Type 0
SumsHaveOneAnswer = SettlesAnswers Memory sums.IsReported

-- and of `compare`
abbrev pub ComparisonsHaveOneAnswer : Type 0
ComparisonsHaveOneAnswer = SettlesAnswers words.Memory compare.IsReported
