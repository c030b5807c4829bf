-- What is written of what is asked for.
use Rattle.std.proofs.Common.{◌≡◌, ◌⊎◌, inl, inr, ℕ, false, List, [], Option, Some, None, Result, Ok, Err, refl, sym, subst}
use Rattle.log_read.specs.declared.refusal.LogWhy.{LogWhy}
use Rattle.log_read.specs.Log.{HasEntries}
use Rattle.log_read.specs.Readings.{records_by}
use Rattle.log_read.specs.Watchers.{told_lines}
use Rattle.sig_io.specs.Outside.{Contents}
use Rattle.report_seen.specs.declared.stop.Stop.{Stop}
use Rattle.report_seen.specs.declared.stop.Stop.TheVariants.{Memory, Words, TooManySeconds, ReadFault, WriteFault, Line, LogEnds}
use Rattle.report_seen.specs.DiagramCall.{IsWritten}
use Rattle.report_seen.specs.SumsForm.{Asked}
use Rattle.report_seen.specs.SumsCall.{IsAnswered, IsStopped, IsTextOf, LacksGroup}
use Rattle.report_seen.specs.Serves.{serves_for}
use Rattle.report_seen.specs.Summed.{IsUnsummed}

-- a text that is asked for, and is written
pub answered : (asked : Asked) (file : Contents) (text : List ℕ) (given : Result (Unit {0}) Stop) (old new : Option (List ℕ)) →
    IsTextOf asked file text → IsWritten text given old new → IsAnswered asked file given old new
answered asked file text (Ok x) old new of written = (text, of, written)
answered asked file text (Err stop) old new of written = subst (λ s. IsStopped asked file s old new) (sym written.0) (text, of, written.1)

-- a log that is not added up
pub unsummed : (asked : Asked) (file : Contents) (stop : Stop) (old new : Option (List ℕ)) → IsUnsummed (file asked.log) stop →
    ((line : ℕ) (why : LogWhy) → stop ≡ Line line why → LacksGroup (file asked.log) asked.serves → ⊥) → new ≡ old → IsStopped asked file stop old new
unsummed asked file Memory old new is served same = same
unsummed asked file Words old new is served same = absurd is
unsummed asked file TooManySeconds old new is served same = absurd is
unsummed asked file ReadFault old new is served same = same
unsummed asked file WriteFault old new is served same = absurd is
unsummed asked file (Line line why) old new is served same = (same, is, served line why refl)
unsummed asked file (LogEnds last) old new is served same = absurd is

-- a log without a group that detectors are said to serve, or want of memory
pub unserved : (asked : Asked) (file : Contents) (names : List (List ℕ)) (stop : Stop) (old new : Option (List ℕ)) →
    HasEntries (records_by false names) 1 (told_lines (file asked.log)) 1 [] → (stop ≡ Memory) ⊎ (stop ≡ Words) →
    (stop ≡ Words → serves_for names asked.serves ≡ None) → new ≡ old → IsStopped asked file stop old new
unserved asked file names stop old new head (inl memory) lacking same = subst (λ s. IsStopped asked file s old new) (sym memory) same
unserved asked file names stop old new head (inr words) lacking same =
    subst (λ s. IsStopped asked file s old new) (sym words) (same, (names, (head, lacking words)))

-- words that are no form are no read that failed
pub no_read : (given : Result (Unit {0}) Stop) → given ≡ Err Words → given ≡ Err ReadFault → ⊥
no_read given words fault = cc

-- and no write
pub no_write : (given : Result (Unit {0}) Stop) → given ≡ Err Words → given ≡ Err WriteFault → ⊥
no_write given words fault = cc
