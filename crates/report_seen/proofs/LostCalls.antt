-- What is written of lost starts.
use Rattle.std.proofs.Common.{◌≡◌, ℕ, List, Option, Result, Ok, Err, sym, subst}
use Rattle.report_seen.specs.declared.stop.Stop.{Stop}
use Rattle.report_seen.specs.declared.stop.Stop.TheVariants.{Memory, Words, TooManySeconds, ReadFault, WriteFault, Line, LogEnds}
use Rattle.report_seen.specs.DiagramCall.{IsWritten}
use Rattle.report_seen.specs.LostForm.{Asked}
use Rattle.report_seen.specs.LostCall.{IsAnswered, IsLostText, IsStopped, IsUntold}

-- a text that is asked for, and is written
pub lost_answered : (asked : Asked) (bytes text : List ℕ) (given : Result (Unit {0}) Stop) (old new : Option (List ℕ)) →
    IsLostText asked bytes text → IsWritten text given old new → IsAnswered asked bytes given old new
lost_answered asked bytes text (Ok x) old new of written = (text, of, written)
lost_answered asked bytes text (Err stop) old new of written = subst (λ s. IsStopped asked bytes s old new) (sym written.0) (text, of, written.1)

-- a log of which nothing is told
pub lost_stopped : (asked : Asked) (bytes : List ℕ) (stop : Stop) (old new : Option (List ℕ)) → IsUntold bytes stop → new ≡ old →
    IsStopped asked bytes stop old new
lost_stopped asked bytes Memory old new is same = same
lost_stopped asked bytes Words old new is same = absurd is
lost_stopped asked bytes TooManySeconds old new is same = absurd is
lost_stopped asked bytes ReadFault old new is same = same
lost_stopped asked bytes WriteFault old new is same = absurd is
lost_stopped asked bytes (Line line why) old new is same = (same, is)
lost_stopped asked bytes (LogEnds last) old new is same = absurd is
