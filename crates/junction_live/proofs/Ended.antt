-- A live run that ended before its closing second.
use Rattle.std.proofs.Common.{◌≡◌, ℕ, true, false, ◌≤◌, List, length, Option, Result, Ok, Err, refl, arith}
use Rattle.sig_io.specs.Outside.{HasCause}
use Rattle.sig_types.specs.Counts.{Counts}
use Rattle.sig_types.specs.Pass.{Logic}
use Rattle.sig_types.specs.Turns.{History}
use Rattle.controller.specs.Past.{Site, Past}
use Rattle.junction_run.specs.declared.status.Status.{Status}
use Rattle.junction_run.specs.declared.status.Status.TheVariants.{WriteFault}
use Rattle.std.specs.Io.KnownBytes.{append_known}
use Rattle.junction_live.specs.Outcome.{Live, Written, all_written, cut_off, is_done, log_of}
use Rattle.junction_live.specs.Play.{NeverAhead, NoMore}

-- all was done
pub all_of : (status : Status) (seconds : ℕ) (made : List Counts) (logic : Logic) (site : Site) (past : Past) (old new : Option (List ℕ)) →
    is_done status ≡ true →
    Written seconds logic site past made old new status → (length made ≡ seconds) × (new ≡ append_known old (log_of logic site past made))
all_of status seconds made logic site past old new is (all_written count text) = (count, text)
all_of status seconds made logic site past old new is (cut_off le n cut) = cc

pub cut_live : {A E : Type 0} (Given : A → History → Type 0) (status : Status) (fault : E) (frames made : List Counts) (logic : Logic) (site : Site) (past : Past)
    (old new : Option (List ℕ)) → is_done status ≡ false →
    Written (length frames) logic site past made old new status → NeverAhead made → NoMore frames made → Live Given (Err fault) frames logic site past old new
cut_live Given status fault frames made logic site past old new is (all_written count text) ahead less = cc
cut_live Given status fault frames made logic site past old new is (cut_off le n cut) ahead less = (made, omega (arith, le), (n, cut), ahead, less)

-- unless all was done, the sink failed
pub cut_is : (status : Status) (seconds : ℕ) (made : List Counts) (logic : Logic) (site : Site) (past : Past) (old new : Option (List ℕ)) →
    is_done status ≡ false →
    Written seconds logic site past made old new status → status ≡ WriteFault
cut_is status seconds made logic site past old new is (all_written count text) = cc
cut_is status seconds made logic site past old new is (cut_off le n cut) = refl

-- a fault of a later call is one of both
pub cause_later : {A E : Type 0} (r : Result A E) (first mid last : ℕ) → first ≤ mid → HasCause mid last r → HasCause first last r
cause_later (Ok x) first mid last le is = record { later = omega (arith, is.later); failed = is.failed }
cause_later (Err fault) first mid last le is = record { later = omega (arith, is.later); failed = omega (arith, is.failed) }
