-- What `second` writes.
use Rattle.std.specs.Prelude.{◌≡◌, ◌-◌, ℕ, List, Option, Result, Ok, Err}
use Rattle.sig_io.specs.Outside.{Contents}
use Rattle.sig_types.specs.Counts.{Counts}
use Rattle.vap_ast.specs.Syntax.{Program}
use Rattle.vap_code.specs.Codes.{CodeOf}
use Rattle.controller.specs.Past.{Site, opening}
use Rattle.det_stream.specs.Stream.{stream_of}
use Rattle.junction_run.specs.declared.stop.PlayStop.{PlayStop}
use Rattle.junction_run.specs.declared.stop.Stop.TheVariants.{Load, Play}
use Rattle.junction_run.specs.Loading.{LoadsProgram, Playing, program_at, ReachedAfterSite}
use Rattle.junction_run.specs.Played.{IsPlayed, IsWritten}
use Rattle.junction_run.specs.Stop.{IsUnloadedBy}
use Rattle.run_seconds.specs.Told.{told_from}
use Rattle.trace_told.specs.Columns.{columns_of}
use Rattle.trace_call.specs.Loaded.{FilesGive, code_for}
use Rattle.trace_told.specs.Listing.{second_told}
use Rattle.trace_call.specs.declared.stop.Stop.{Stop}
use Rattle.trace_call.specs.declared.stop.Stop.TheVariants.{Words, NoName, Run}
use Rattle.trace_call.specs.Form.{SecondWords}

-- the listing of a second, by a program and a code, if it is among those with these frames of the run of which the log is the record
unfoldable pub second_by : Program → (second : ℕ) → CodeOf → Playing → List Counts → List ℕ
second_by program second code playing frames =
    told_from (second_told program (columns_of program) (second - 1) code playing.site) playing.logic playing.site (opening playing.site playing.store) frames

-- the same of a program at a site, by the program's code
abbrev pub second_text : (second : ℕ) → Program → Site → List Counts → List ℕ
second_text second program site frames = second_by program second (code_for program) (program_at site program) frames

-- the listing was written, or only a front of it, if the second was made: of all up to the detector file's end or its first
-- refused line, or of the first ones
pub record WasListed {A : Type 0} (asked : SecondWords) (file : Contents) (r : Result A PlayStop) (old new : Option (List ℕ)) : Type 0 where
  pub program : Program
  pub site : Site
  pub gives : FilesGive asked.run.program asked.run.site file site program
  pub frames : List Counts
  pub written : IsWritten r (second_text asked.second program site frames) old new
  pub given : IsPlayed asked.run.detectors r (stream_of (file asked.run.detectors)) frames

-- `second` ended so, over files that tell this
abbrev pub IsSecond : {A : Type 0} → SecondWords → Contents → Result A Stop → Option (List ℕ) → Option (List ℕ) → Type 0
IsSecond {A} asked file (Ok x) old new = WasListed {A = A} asked file (Ok x) old new
IsSecond asked file (Err Words) old new = ⊥
IsSecond asked file (Err (NoName word nearest)) old new = ⊥
IsSecond asked file (Err (Run (Load stop))) old new =
    IsUnloadedBy (LoadsProgram asked.run.program asked.run.site file) (ReachedAfterSite asked.run.program asked.run.site file) stop
    × (new ≡ old)
IsSecond {A} asked file (Err (Run (Play stop))) old new = WasListed {A = A} asked file (Err stop) old new
