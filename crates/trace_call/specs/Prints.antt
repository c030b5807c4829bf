-- What `trace` writes.
use Rattle.std.specs.Prelude.{◌≡◌, ℕ, List, Option, Result, Ok, Err}
use Rattle.sig_io.specs.Outside.{Contents}
use Rattle.sig_types.specs.Counts.{Counts}
use Rattle.vap_ast.specs.Syntax.{Program}
use Rattle.vap_check.specs.Numbers.{names_of}
use Rattle.vap_code.specs.Codes.{CodeOf}
use Rattle.vap_lex.specs.declared.token.Token.{Token}
use Rattle.vap_lex.specs.Tokens.{HasTokens}
use Rattle.controller.specs.Past.{Site, opening}
use Rattle.det_stream.specs.Stream.{stream_of}
use Rattle.junction_run.specs.declared.stop.PlayStop.{PlayStop}
use Rattle.junction_run.specs.declared.stop.Stop.TheVariants.{Load, Play}
use Rattle.junction_run.specs.Loading.{LoadsProgram, Playing, program_at, ReachedAfterSite}
use Rattle.junction_run.specs.Played.{IsPlayed, IsWritten}
use Rattle.junction_run.specs.Stop.{IsUnloadedBy}
use Rattle.run_seconds.specs.Told.{told_from}
use Rattle.trace_told.specs.Columns.{columns_of}
use Rattle.trace_call.specs.Loaded.{FilesGive, code_for}
use Rattle.trace_told.specs.Printed.{prints_told}
use Rattle.trace_told.specs.Traces.{TraceOf, traces_of}
use Rattle.trace_call.specs.declared.stop.Stop.{Stop}
use Rattle.trace_call.specs.declared.stop.Stop.TheVariants.{Words, NoName, Run}
use Rattle.trace_call.specs.Form.{RunWords}

-- what TRACE statements of a program print, by a code, in the seconds with these frames of the run of which the log is the record
unfoldable pub prints_by : Program → List TraceOf → CodeOf → Playing → List Counts → List ℕ
prints_by program traces code playing frames =
    told_from (prints_told program traces code playing.site) playing.logic playing.site (opening playing.site playing.store) frames

-- the TRACE statements of a program whose text has these tokens, by a code
abbrev pub traces_in : Program → List Token → CodeOf → List TraceOf
traces_in program tokens code = traces_of (names_of program) program (columns_of program) tokens code.instrs

-- what they print at a site, by the program's code
abbrev pub prints_text : Program → List Token → Site → List Counts → List ℕ
prints_text program tokens site frames =
    prints_by program (traces_in program tokens (code_for program)) (code_for program) (program_at site program) frames

-- What the TRACE statements print in the seconds that were made was written, or only a front of it: of all up to the detector file's
-- end or its first refused line, or of the first ones.
pub record WerePrints {A : Type 0} (run : RunWords) (file : Contents) (r : Result A PlayStop) (old new : Option (List ℕ)) : Type 0 where
  pub program : Program
  pub site : Site
  pub gives : FilesGive run.program run.site file site program
  pub tokens : List Token
  pub spelled : HasTokens (file run.program) tokens
  pub frames : List Counts
  pub written : IsWritten r (prints_text program tokens site frames) old new
  pub given : IsPlayed run.detectors r (stream_of (file run.detectors)) frames

-- `trace` ended so, over files that tell this
abbrev pub IsTrace : {A : Type 0} → RunWords → Contents → Result A Stop → Option (List ℕ) → Option (List ℕ) → Type 0
IsTrace {A} run file (Ok x) old new = WerePrints {A = A} run file (Ok x) old new
IsTrace run file (Err Words) old new = ⊥
IsTrace run file (Err (NoName word nearest)) old new = ⊥
IsTrace run file (Err (Run (Load stop))) old new =
    IsUnloadedBy (LoadsProgram run.program run.site file) (ReachedAfterSite run.program run.site file) stop
    × (new ≡ old)
IsTrace {A} run file (Err (Run (Play stop))) old new = WerePrints {A = A} run file (Err stop) old new
