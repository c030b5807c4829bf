-- What `values` writes.
use Rattle.std.specs.Prelude.{◌≡◌, ◌<◌, ℕ, List, [], ◌∷◌, ◌++◌, length, Option, Result, Ok, Err, slice_index_or}
use Rattle.sig_io.specs.Outside.{Contents}
use Rattle.sig_types.specs.Counts.{Counts}
use Rattle.sig_types.specs.Pass.{Logic}
use Rattle.vap_ast.specs.Syntax.{Program}
use Rattle.controller.specs.Past.{Site, Past, next_second, opening}
use Rattle.controller.specs.Second.{past_after_second}
use Rattle.det_stream.specs.Stream.{stream_of}
use Rattle.junction_run.specs.declared.stop.PlayStop.{PlayStop}
use Rattle.junction_run.specs.declared.stop.Stop.TheVariants.{Load, Play}
use Rattle.junction_run.specs.Loading.{LoadsProgram, Playing, program_at, ReachedAfterSite}
use Rattle.junction_run.specs.Played.{IsPlayed, IsWritten}
use Rattle.junction_run.specs.Stop.{IsUnloadedBy}
use Rattle.run_seconds.specs.Told.{told_from}
use Rattle.trace_told.specs.declared.columns.Column.{Column}
use Rattle.trace_told.specs.Columns.{IsUnknown, NamesSome, chosen_by, columns_of}
use Rattle.trace_told.specs.Nearest.{IsNearest}
use Rattle.trace_told.specs.ValueRows.{header_text, row_within}
use Rattle.trace_call.specs.Loaded.{FilesGive}
use Rattle.trace_call.specs.declared.stop.Stop.{Stop}
use Rattle.trace_call.specs.declared.stop.Stop.TheVariants.{Words, NoName, Run}
use Rattle.trace_call.specs.Form.{ValuesWords}

-- the row of the second after a past with this frame, if it is one of those that are asked for: the values that it leaves
abbrev pub row_of : (first last : ℕ) → List Column → Logic → Site → Past → Counts → List ℕ
row_of first last columns logic site past frame =
    row_within first last (next_second past) (past_after_second logic site past frame).store columns

-- the rows of the seconds with these frames of the run of which the log is the record
unfoldable pub rows_text : (first last : ℕ) → List Column → Playing → List Counts → List ℕ
rows_text first last columns playing frames =
    told_from (row_of first last columns playing.logic playing.site) playing.logic playing.site (opening playing.site playing.store) frames

-- the values that names choose; all where there are no names
abbrev pub columns_for : Program → List (List ℕ) → List Column
columns_for p [] = columns_of p
columns_for p (name ∷ names) = chosen_by p (columns_of p) (name ∷ names)

-- each name is one of the program's
abbrev pub AllNamed : Program → List (List ℕ) → Type 0
AllNamed p names = (k : ℕ) → k < length names → NamesSome p (columns_of p) (slice_index_or names k [])

-- the files give a program at a site, and it has the values that are asked for
pub record Has (asked : ValuesWords) (file : Contents) : Type 0 where
  pub program : Program
  pub site : Site
  pub gives : FilesGive asked.run.program asked.run.site file site program
  pub named : AllNamed program asked.names

-- the table of the seconds with these frames
abbrev pub values_text : (asked : ValuesWords) (file : Contents) → Has asked file → List Counts → List ℕ
values_text asked file has frames =
    let columns = columns_for has.program asked.names in
    header_text has.program columns ++ rows_text asked.first asked.last columns (program_at has.site has.program) frames

-- The table of the seconds that were made was written, or only a front of it: of all up to the detector file's end or
-- its first refused line, or of the first ones.
pub record WasTold {A : Type 0} (asked : ValuesWords) (file : Contents) (r : Result A PlayStop) (old new : Option (List ℕ)) : Type 0 where
  pub has : Has asked file
  pub frames : List Counts
  pub written : IsWritten r (values_text asked file has frames) old new
  pub given : IsPlayed asked.run.detectors r (stream_of (file asked.run.detectors)) frames

-- A word that is asked for names no value of the program that the files give; this is the nearest name.
pub record IsNoName (asked : ValuesWords) (file : Contents) (word nearest : List ℕ) : Type 0 where
  pub program : Program
  pub site : Site
  pub gives : FilesGive asked.run.program asked.run.site file site program
  pub place : ℕ
  pub unknown : IsUnknown program (columns_of program) asked.names place
  pub word_is : word ≡ slice_index_or asked.names place []
  pub nearest_is : IsNearest program word (columns_of program) nearest

-- `values` ended so, over files that tell this
abbrev pub IsValues : {A : Type 0} → ValuesWords → Contents → Result A Stop → Option (List ℕ) → Option (List ℕ) → Type 0
IsValues {A} asked file (Ok x) old new = WasTold {A = A} asked file (Ok x) old new
IsValues asked file (Err Words) old new = ⊥
IsValues asked file (Err (NoName word nearest)) old new = IsNoName asked file word.now nearest.items × (new ≡ old)
IsValues asked file (Err (Run (Load stop))) old new =
    IsUnloadedBy (LoadsProgram asked.run.program asked.run.site file) (ReachedAfterSite asked.run.program asked.run.site file) stop
    × (new ≡ old)
IsValues {A} asked file (Err (Run (Play stop))) old new = WasTold {A = A} asked file (Err stop) old new
