-- What `how-ended` writes.
use Rattle.std.specs.Prelude.{◌≡◌, ◌++◌, ℕ, Bool, List, Option, Result, Ok, Err}
use Rattle.sig_io.specs.Outside.{Contents}
use Rattle.sig_types.specs.Counts.{Counts}
use Rattle.vap_ast.specs.Syntax.{Program}
use Rattle.vap_code.specs.Codes.{CodeOf}
use Rattle.controller.specs.Past.{Site, opening}
use Rattle.det_stream.specs.Stream.{stream_of}
use Rattle.junction_run.specs.declared.stop.PlayStop.{PlayStop}
use Rattle.junction_run.specs.declared.stop.Stop.TheVariants.{Load, Play}
use Rattle.junction_run.specs.Loading.{LoadsProgram, Playing, program_at, ReachedAfterSite}
use Rattle.junction_run.specs.Played.{IsPlayed, IsWritten}
use Rattle.junction_run.specs.Stop.{IsUnloadedBy}
use Rattle.run_seconds.specs.Told.{told_from}
use Rattle.trace_told.specs.EndRows.{end_told, header_text}
use Rattle.trace_call.specs.Loaded.{FilesGive, code_for}
use Rattle.trace_call.specs.declared.stop.Stop.{Stop}
use Rattle.trace_call.specs.declared.stop.Stop.TheVariants.{Words, NoName, Run}
use Rattle.trace_call.specs.Form.{EndsWords}

-- the rows of the ends of stages, by a code, in the seconds with these frames of the run of which the log is the record
unfoldable pub ends_by : Bool → CodeOf → Playing → List Counts → List ℕ
ends_by csv code playing frames =
    header_text csv ++ told_from (end_told csv code playing.site) playing.logic playing.site (opening playing.site playing.store) frames

-- the same of a program at a site, by the program's code
abbrev pub ends_text : Bool → Program → Site → List Counts → List ℕ
ends_text csv program site frames = ends_by csv (code_for program) (program_at site program) frames

-- the ends of stages in the seconds that were made were written, or only a front of them: of all up to the detector file's end or
-- its first refused line, or of the first ones
pub record WereEnds {A : Type 0} (asked : EndsWords) (file : Contents) (r : Result A PlayStop) (old new : Option (List ℕ)) : Type 0 where
  pub program : Program
  pub site : Site
  pub gives : FilesGive asked.run.program asked.run.site file site program
  pub frames : List Counts
  pub written : IsWritten r (ends_text asked.csv program site frames) old new
  pub given : IsPlayed asked.run.detectors r (stream_of (file asked.run.detectors)) frames

-- `how-ended` ended so, over files that tell this
abbrev pub IsHowEnded : {A : Type 0} → EndsWords → Contents → Result A Stop → Option (List ℕ) → Option (List ℕ) → Type 0
IsHowEnded {A} asked file (Ok x) old new = WereEnds {A = A} asked file (Ok x) old new
IsHowEnded asked file (Err Words) old new = ⊥
IsHowEnded asked file (Err (NoName word nearest)) old new = ⊥
IsHowEnded asked file (Err (Run (Load stop))) old new =
    IsUnloadedBy (LoadsProgram asked.run.program asked.run.site file) (ReachedAfterSite asked.run.program asked.run.site file) stop
    × (new ≡ old)
IsHowEnded {A} asked file (Err (Run (Play stop))) old new = WereEnds {A = A} asked file (Err stop) old new
