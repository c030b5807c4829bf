-- What was told, of what the parts of telling answer.
use Rattle.std.proofs.Common.{◌≡◌, ◌∙◌, ◌++◌, ℕ, List, Option, Result, Ok, Err, ap, sym, subst, refl}
use Rattle.sig_io.specs.Outside.{Contents}
use Rattle.sig_types.specs.Counts.{Counts}
use Rattle.vap_ast.specs.Syntax.{Program}
use Rattle.vap_code.specs.Codes.{CodeOf}
use Rattle.vap_code.specs.Machine.{machine}
use Rattle.vap_code.specs.Stores.{first_store}
use Rattle.vap_code.specs.Valid.{Valid}
use Rattle.controller.specs.declared.controller.Controller.{Controller}
use Rattle.controller.specs.Controls.{code_of, logic_of, site_of}
use Rattle.controller.specs.Past.{Site, opening}
use Rattle.det_stream.specs.Stream.{stream_of}
use Rattle.junction_run.specs.declared.load.Site.{Site as Loaded}
use Rattle.junction_run.specs.declared.stop.LoadStop.{LoadStop}
use Rattle.junction_run.specs.declared.stop.LoadStop.TheVariants.{Memory}
use Rattle.junction_run.specs.declared.stop.PlayStop.{PlayStop}
use Rattle.junction_run.specs.declared.stop.Stop.{Stop as RunStop}
use Rattle.junction_run.specs.declared.stop.Stop.TheVariants.{Load, Play}
use Rattle.junction_run.specs.Loading.{LoadsProgram, ReachedAfterSite, code_at, program_at}
use Rattle.junction_run.specs.Played.{IsPlayed, IsWritten}
use Rattle.junction_run.specs.Programs.{Runs}
use Rattle.junction_run.specs.Sites.{playing_in, site_in}
use Rattle.junction_run.specs.Stop.{IsUnloadedBy}
use Rattle.run_seconds.specs.Told.{told_from}
use Rattle.trace_told.specs.declared.columns.Column.{Column}
use Rattle.trace_told.specs.ValueRows.{header_text, row_told}
use Rattle.trace_call.specs.Loaded.{FilesGive}
use Rattle.trace_call.specs.declared.stop.Stop.{Stop}
use Rattle.trace_call.specs.declared.stop.Stop.TheVariants.{Words, NoName, Run}
use Rattle.trace_call.specs.Chosen.{IsChosen}
use Rattle.trace_call.specs.Form.{ValuesWords}
use Rattle.trace_call.specs.ToldAt.{IsToldAt, WasToldAt}
use Rattle.trace_call.specs.Values.{AllNamed, IsValues, WasTold, columns_for, row_of, rows_text}
use Rattle.trace_call.proofs.Agrees.{same_rows}

-- the rows of a controller that was made of a code at a site
rows_are : (c : Controller) (code : CodeOf) (site : Site) (first last : ℕ) (columns : List Column) (frames : List Counts) →
    logic_of c ≡ machine code → site_of c ≡ site →
    told_from (row_told first last columns (code_of c) (site_of c)) (logic_of c) (site_of c) (opening (site_of c) (first_store code)) frames
    ≡ rows_text first last columns (code_at site code) frames
unfolding rows_text code_of logic_of
rows_are c code site first last columns frames logic at =
    ap (λ s. told_from (row_of first last columns (logic_of c) s) (logic_of c) s (opening s (first_store code)) frames) at
    ∙ ap (λ l. told_from (row_of first last columns l site) l site (opening site (first_store code)) frames) logic

-- what such a controller told
pub was_told : {A : Type 0} (c : Controller) (site : Loaded) (program : Program) (columns : List Column) (first last : ℕ) (name read : List ℕ)
    (file : Contents) (r : Result A PlayStop) (frames : List Counts) (old new : Option (List ℕ)) →
    logic_of c ≡ machine site.code → site_of c ≡ site_in site → read ≡ name →
    IsWritten r (header_text program columns ++ told_from (row_told first last columns (code_of c) (site_of c)) (logic_of c) (site_of c)
    (opening (site_of c) (first_store site.code)) frames) old new → IsPlayed name r (stream_of (file read)) frames →
    WasToldAt {A = A} site program columns first last name (stream_of (file name)) r old new
was_told c site program columns first last name read file r frames old new logic at named written is = record {
  frames = frames;
  written = subst (λ t. IsWritten r (header_text program columns ++ t) old new)
      (rows_are c site.code (site_in site) first last columns frames logic at) written;
  given = subst (λ n. IsPlayed name r (stream_of (file n)) frames) named is;
}

module _ (asked : ValuesWords) (file : Contents) (site : Loaded) (program : Program) where
  -- the files give this program at this site
  abbrev Gives : Type 0
  Gives = FilesGive asked.run.program asked.run.site file (site_in site) program

  -- what was told at a site was told of the files
  told_of_files : {A : Type 0} (columns : List Column) (r : Result A PlayStop) (old new : Option (List ℕ)) →
      Gives → Runs site.code program → Valid site.code → columns ≡ columns_for program asked.names → AllNamed program asked.names →
      WasToldAt {A = A} site program columns asked.first asked.last asked.run.detectors (stream_of (file asked.run.detectors)) r old new →
      WasTold {A = A} asked file r old new
  told_of_files columns r old new gives runs valid chosen named is =
      let rows : rows_text asked.first asked.last columns (playing_in site) is.frames
      ≡ rows_text asked.first asked.last columns (program_at (site_in site) program) is.frames =
      same_rows site.code program runs valid asked.first asked.last columns (site_in site) is.frames in
      let all : header_text program columns ++ rows_text asked.first asked.last columns (playing_in site) is.frames
      ≡ header_text program (columns_for program asked.names)
      ++ rows_text asked.first asked.last (columns_for program asked.names) (program_at (site_in site) program) is.frames =
      ap (λ t. header_text program columns ++ t) rows
      ∙ ap (λ cs. header_text program cs ++ rows_text asked.first asked.last cs (program_at (site_in site) program) is.frames) chosen in
      record {
        has = record { program = program; site = site_in site; gives = gives; named = named };
        frames = is.frames;
        written = subst (λ t. IsWritten r t old new) all is.written;
        given = is.given;
      }

  -- memory that was wanted
  wanted : (stop : LoadStop) → stop ≡ Memory →
      IsUnloadedBy (LoadsProgram asked.run.program asked.run.site file) (ReachedAfterSite asked.run.program asked.run.site file) stop
  wanted stop is = subst
      (λ s. IsUnloadedBy (LoadsProgram asked.run.program asked.run.site file) (ReachedAfterSite asked.run.program asked.run.site file) s) (sym is) tt

  -- the whole form, where all was told
  pub values_told : (columns : List Column) (old new : Option (List ℕ)) →
      Gives → Runs site.code program → Valid site.code → columns ≡ columns_for program asked.names → AllNamed program asked.names →
      WasToldAt {A = Unit {0}} site program columns asked.first asked.last asked.run.detectors (stream_of (file asked.run.detectors)) (Ok tt) old new →
      IsValues {A = Unit {0}} asked file (Ok tt) old new
  values_told columns old new gives runs valid chosen named is = told_of_files columns (Ok tt) old new gives runs valid chosen named is

  -- and where it stopped
  pub values_stopped : (columns : List Column) (stop : RunStop) (old new : Option (List ℕ)) →
      Gives → Runs site.code program → Valid site.code → columns ≡ columns_for program asked.names → AllNamed program asked.names →
      IsToldAt {A = Unit {0}} site program columns asked.first asked.last asked.run.detectors (stream_of (file asked.run.detectors)) (Err stop) old new →
      IsValues {A = Unit {0}} asked file (Err (Run stop)) old new
  values_stopped columns (Load stop) old new gives runs valid chosen named is = (wanted stop is.0, is.1)
  values_stopped columns (Play stop) old new gives runs valid chosen named is =
      told_of_files {A = Unit {0}} columns (Err stop) old new gives runs valid chosen named is

  -- no values were chosen
  pub none_chosen : (stop : Stop) (now : Option (List ℕ)) → Gives → IsChosen program asked.names (Err stop) →
      IsValues {A = Unit {0}} asked file (Err stop) now now
  none_chosen Words now gives is = is
  none_chosen (NoName word nearest) now gives is = (
    record {
      program = program;
      site = site_in site;
      gives = gives;
      place = is.place;
      unknown = is.unknown;
      word_is = is.word_is;
      nearest_is = is.nearest_is;
    },
    refl,
  )
  none_chosen (Run (Load stop)) now gives is = (wanted stop is, refl)
  none_chosen (Run (Play stop)) now gives is = absurd is
