-- What `lines` writes.
use Rattle.std.specs.Prelude.{◌≡◌, ◌++◌, ◌⊎◌, ℕ, List, [], ◌∷◌, map, Option, Result, Ok, Err, Vec}
use Rattle.std.specs.declared.alloc.Global.{Global}
use Rattle.std.specs.Io.KnownBytes.{append_known}
use Rattle.sig_io.specs.Draft.{IsCut}
use Rattle.sig_io.specs.Outside.{Contents}
use Rattle.sig_types.specs.Counts.{Counts}
use Rattle.vap_ast.specs.Syntax.{Program}
use Rattle.vap_code.specs.Codes.{CodeOf}
use Rattle.vap_code.specs.Sights.{Sight}
use Rattle.vap_code.specs.Stores.{first_store}
use Rattle.controller.specs.Past.{Site, opening}
use Rattle.det_stream.specs.Stream.{stream_of}
use Rattle.junction_run.specs.declared.stop.PlayStop.{PlayStop}
use Rattle.junction_run.specs.declared.stop.PlayStop.TheVariants.{ReadFault, WriteFault, RefusedLine}
use Rattle.junction_run.specs.declared.stop.Stop.{Stop as RunStop}
use Rattle.junction_run.specs.declared.stop.Stop.TheVariants.{Load, Play}
use Rattle.junction_run.specs.declared.stop.LoadStop.TheVariants as load
use Rattle.junction_run.specs.Form.{SiteWords}
use Rattle.junction_run.specs.Loading.{LoadsProgram, ReachedAfterSite, ReachedInSite, site_of}
use Rattle.junction_run.specs.Played.{IsPlayed}
use Rattle.junction_run.specs.Stop.{IsLoadStop, IsUnloadedBy}
use Rattle.trace_lines.specs.declared.line.Line.{Line}
use Rattle.trace_lines.specs.Csv.{csv_text}
use Rattle.trace_lines.specs.Lcov.{lcov_text}
use Rattle.trace_lines.specs.Lines.{LineOf, line_in, lines_counted}
use Rattle.trace_lines.specs.Table.{table_text}
use Rattle.trace_call.specs.Loaded.{FilesGive, code_for}
use Rattle.trace_lines.specs.declared.tally.Tally.{Tally}
use Rattle.trace_lines.specs.Seconds.{sights_by}
use Rattle.trace_lines.specs.Tallied.{HasTallied}
use Rattle.trace_call.specs.declared.form.Style.{Style}
use Rattle.trace_call.specs.declared.form.Style.TheVariants.{Table, Csv, Lcov}
use Rattle.trace_call.specs.declared.stop.Stop.{Stop}
use Rattle.trace_call.specs.declared.stop.Stop.TheVariants.{Words, NoName, Run}
use Rattle.trace_call.specs.Form.{LinesWords}

-- what is seen in the seconds with these frames of a run of a code at a site, from its first store on
abbrev pub sights_of : CodeOf → Site → List Counts → List (List Sight)
sights_of code site frames = sights_by code site (opening site (first_store code)) frames

-- what is seen in the seconds of runs, each of which begins anew
abbrev pub sights_in_runs : CodeOf → Site → List (List Counts) → List (List Sight)
sights_in_runs code site [] = []
sights_in_runs code site (frames ∷ runs) = sights_of code site frames ++ sights_in_runs code site runs

-- what is counted of the lines of a code in these runs, all added up
unfoldable pub counted_of : CodeOf → Site → List (List Counts) → List LineOf
counted_of code site runs = lines_counted code.instrs (sights_in_runs code site runs)

-- what is written of the lines of a program with this name and this text
abbrev pub lines_text : Style → (name text : List ℕ) → List LineOf → List ℕ
lines_text Table name text lines = table_text text lines
lines_text Csv name text lines = csv_text lines
lines_text Lcov name text lines = lcov_text name lines

-- the detector files that are asked for, in their order
abbrev pub detectors_of : LinesWords → List (List ℕ)
detectors_of asked = asked.run.detectors ∷ asked.added

-- all seconds of these detector files were made, a run of each
abbrev pub AreMade : List (List ℕ) → Contents → List (List Counts) → Type 0
AreMade [] file [] = Unit {0}
AreMade [] file (frames ∷ runs) = ⊥
AreMade (name ∷ names) file [] = ⊥
AreMade (name ∷ names) file (frames ∷ runs) =
    IsPlayed {A = Unit {0}} name (Ok tt) (stream_of (file name)) frames × AreMade names file runs

-- the run of a detector file stopped so
abbrev pub IsStoppedRun : List ℕ → Contents → PlayStop → Type 0
IsStoppedRun name file stop = (frames : List Counts) × IsPlayed {A = Unit {0}} name (Err stop) (stream_of (file name)) frames

-- the runs of these detector files stopped so: all seconds of the first ones were made, and then that of one stopped
abbrev pub AreStopped : List (List ℕ) → Contents → PlayStop → Type 0
AreStopped [] file stop = ⊥
AreStopped (name ∷ names) file stop =
    IsStoppedRun name file stop
    ⊎ ((frames : List Counts) × IsPlayed {A = Unit {0}} name (Ok tt) (stream_of (file name)) frames × AreStopped names file stop)

-- The files give a program at a site, and this was done with the counts of all seconds of all detector files.
pub record WereCounted (asked : LinesWords) (file : Contents) (Done : List ℕ → Type 0) : Type 0 where
  pub program : Program
  pub site : Site
  pub gives : FilesGive asked.run.program asked.run.site file site program
  pub runs : List (List Counts)
  pub made : AreMade (detectors_of asked) file runs
  pub done : Done (lines_text asked.style asked.run.program (file asked.run.program) (counted_of (code_for program) site runs))

-- The files give a program at a site, and not all seconds were made.
pub record WereStopped (asked : LinesWords) (file : Contents) (stop : PlayStop) : Type 0 where
  pub program : Program
  pub site : Site
  pub gives : FilesGive asked.run.program asked.run.site file site program
  pub stopped : AreStopped (detectors_of asked) file stop

-- seconds stopped so: nothing was written; or all were made, and the sink took only the first bytes of the text
abbrev pub IsLinesStop : LinesWords → Contents → PlayStop → Option (List ℕ) → Option (List ℕ) → Type 0
IsLinesStop asked file (ReadFault word) old new = WereStopped asked file (ReadFault word) × (new ≡ old)
IsLinesStop asked file WriteFault old new = WereCounted asked file (λ text. (n : ℕ) × IsCut old new n text)
IsLinesStop asked file (RefusedLine word line reason) old new = WereStopped asked file (RefusedLine word line reason) × (new ≡ old)

-- `lines` ended so, over files that tell this
abbrev pub IsLines : {A : Type 0} → LinesWords → Contents → Result A Stop → Option (List ℕ) → Option (List ℕ) → Type 0
IsLines asked file (Ok x) old new = WereCounted asked file (λ text. new ≡ append_known old text)
IsLines asked file (Err Words) old new = ⊥
IsLines asked file (Err (NoName word nearest)) old new = ⊥
IsLines asked file (Err (Run (Load stop))) old new =
    IsUnloadedBy (LoadsProgram asked.run.program asked.run.site file) (ReachedAfterSite asked.run.program asked.run.site file) stop
    × (new ≡ old)
IsLines asked file (Err (Run (Play stop))) old new = IsLinesStop asked file stop old new

-- ---- of the parts

-- a stop while seconds are made
abbrev pub IsMakingStop : PlayStop → Type 0
IsMakingStop (ReadFault word) = Unit {0}
IsMakingStop WriteFault = ⊥
IsMakingStop (RefusedLine word line reason) = Unit {0}

-- a run of a code at a site was tallied after these seconds, or not all of its seconds were made, or memory was wanted
abbrev pub IsTalliedRun : CodeOf → Site → List (List Sight) → List ℕ → Contents → Tally → Result (Unit {0}) RunStop → Type 0
IsTalliedRun code site seconds name file tally (Ok x) =
    (frames : List Counts) × IsPlayed {A = Unit {0}} name (Ok tt) (stream_of (file name)) frames
    × HasTallied tally code.instrs (seconds ++ sights_of code site frames)
IsTalliedRun code site seconds name file tally (Err (Load stop)) = stop ≡ load.Memory
IsTalliedRun code site seconds name file tally (Err (Play stop)) = IsStoppedRun name file stop × IsMakingStop stop

-- a run was tallied alone
abbrev pub IsRun : CodeOf → Site → List ℕ → Contents → Result Tally RunStop → Type 0
IsRun code site name file (Ok tally) = IsTalliedRun code site [] name file tally (Ok tt)
IsRun code site name file (Err (Load stop)) = stop ≡ load.Memory
IsRun code site name file (Err (Play stop)) = IsStoppedRun name file stop × IsMakingStop stop

-- a run was tallied after these seconds at a site that was read once more
abbrev pub IsAddedRun : SiteWords → CodeOf → Site → List (List Sight) → List ℕ → Contents → Tally → Result (Unit {0}) RunStop → Type 0
IsAddedRun words code site seconds name file tally (Ok x) = IsTalliedRun code site seconds name file tally (Ok tt)
IsAddedRun words code site seconds name file tally (Err (Load stop)) = IsLoadStop (ReachedInSite words file) stop (site_of words file)
IsAddedRun words code site seconds name file tally (Err (Play stop)) = IsStoppedRun name file stop × IsMakingStop stop

-- runs of these detector files were tallied after these seconds, each at the site that was read once more
abbrev pub AreAddedRuns : SiteWords → CodeOf → Site → List (List Sight) → List (List ℕ) → Contents → Tally → Result (Unit {0}) RunStop → Type 0
AreAddedRuns words code site seconds names file tally (Ok x) =
    (runs : List (List Counts)) × AreMade names file runs × HasTallied tally code.instrs (seconds ++ sights_in_runs code site runs)
AreAddedRuns words code site seconds names file tally (Err (Load stop)) = IsLoadStop (ReachedInSite words file) stop (site_of words file)
AreAddedRuns words code site seconds names file tally (Err (Play stop)) = AreStopped names file stop × IsMakingStop stop

-- the runs of these detector files were counted
abbrev pub AreCountedRuns : SiteWords → CodeOf → Site → List (List ℕ) → Contents → Result (Vec Line Global) RunStop → Type 0
AreCountedRuns words code site names file (Ok lines) =
    (runs : List (List Counts)) × AreMade names file runs × (map line_in lines.items ≡ counted_of code site runs)
AreCountedRuns words code site names file (Err (Load stop)) = IsLoadStop (ReachedInSite words file) stop (site_of words file)
AreCountedRuns words code site names file (Err (Play stop)) = AreStopped names file stop × IsMakingStop stop
