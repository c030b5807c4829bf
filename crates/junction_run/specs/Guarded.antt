-- What the guard keeps in a log.
use Rattle.std.specs.Prelude.{◌≡◌, ℕ, List, take, Option, Ok}
use Rattle.sig_io.specs.Outside.{Contents}
use Rattle.std.specs.Io.KnownBytes.{append_known}
use Rattle.sig_types.specs.Counts.{Counts}
use Rattle.controller.specs.Guarded.{IsGuardedRun}
use Rattle.junction_run.specs.Form.{Form, Play, Compile, Sample, Audit}
use Rattle.junction_run.specs.Loading.{Playing, LoadsSource}
use Rattle.junction_run.specs.Records.{log_of}

-- Nothing was written but a front of the log of a guarded run: its pictures are safe, each green waits for the intergreens
-- from all groups in conflict, each refused turn would break the very rule named, and each refused stage command its own.
pub data IsGuardedLog (old new : Option (List ℕ)) : Type 0 where
  unwritten : new ≡ old → IsGuardedLog old new
  written : (playing : Playing) (frames : List Counts) (n : ℕ) → IsGuardedRun playing.logic playing.site playing.store frames →
      new ≡ append_known old (take n (log_of playing frames)) → IsGuardedLog old new

-- what a form writes keeps the guard's rules, whatever the files tell; the text of a code is no log, nor is a summary
-- or what is judged of a log
abbrev pub IsSafe : Form → Option (List ℕ) → Option (List ℕ) → Type 0
IsSafe (Play source site detectors) old new = IsGuardedLog old new
IsSafe (Compile program) old new = Unit {0}
IsSafe (Sample program site seed seconds) old new = Unit {0}
IsSafe (Audit log site) old new = Unit {0}

-- The same of what these files give: nothing was written but a front of the log of a guarded run of it.
pub data IsGuardedLogOf (Gives : Playing → Type 0) (old new : Option (List ℕ)) : Type 0 where
  unwritten_of : new ≡ old → IsGuardedLogOf Gives old new
  written_of : (playing : Playing) (frames : List Counts) (n : ℕ) → Gives playing →
      IsGuardedRun playing.logic playing.site playing.store frames →
      new ≡ append_known old (take n (log_of playing frames)) → IsGuardedLogOf Gives old new

-- what a form writes over files that tell keeps the guard's rules at the site that they give
abbrev pub IsSafeOf : Form → Contents → Option (List ℕ) → Option (List ℕ) → Type 0
IsSafeOf (Play source site detectors) file old new = IsGuardedLogOf (λ playing. LoadsSource source site file (Ok playing)) old new
IsSafeOf (Compile program) file old new = Unit {0}
IsSafeOf (Sample program site seed seconds) file old new = Unit {0}
IsSafeOf (Audit log site) file old new = Unit {0}
