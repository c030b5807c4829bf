-- What the guard keeps in the text of a live run.
use Rattle.std.specs.Prelude.{◌≡◌, ℕ, List, ◌++◌, take, Option}
use Rattle.std.specs.Io.KnownBytes.{append_known}
use Rattle.sig_types.specs.Counts.{Counts}
use Rattle.controller.specs.Guarded.{IsGuardedRun, pictures_of}
use Rattle.junction_run.specs.Guarded.{IsGuardedLog}
use Rattle.junction_run.specs.Loading.{Playing}
use Rattle.junction_run.specs.Records.{records_of, log_of}
use Rattle.junction_live.specs.Sights.{Sight, AreSights, watches_from}

-- Nothing was written but a front of the log of a guarded run, or a front of such a log with a line for each of so many watchers,
-- which show pictures of that run.
pub data IsGuardedText (watchers : ℕ) (old new : Option (List ℕ)) : Type 0 where
  log_guarded : IsGuardedLog old new → IsGuardedText watchers old new
  lines_guarded : (playing : Playing) (frames : List Counts) (sights : List Sight) (n : ℕ) →
      IsGuardedRun playing.logic playing.site playing.store frames →
      AreSights watchers (pictures_of playing.site (records_of playing frames)) sights →
      new ≡ append_known old (take n (log_of playing frames ++ watches_from 1 sights)) → IsGuardedText watchers old new
