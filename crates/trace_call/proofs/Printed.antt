-- What `trace` wrote, of what its parts answer.
use Rattle.std.proofs.Common.{◌≡◌, ◌∙◌, ℕ, List, Option, Result, ap, subst}
use Rattle.sig_io.specs.Outside.{Contents}
use Rattle.sig_types.specs.Counts.{Counts}
use Rattle.sig_types.specs.Pass.{Logic}
use Rattle.vap_ast.specs.Syntax.{Program}
use Rattle.vap_ast.specs.Tree.{program_of}
use Rattle.vap_check.specs.Numbers.{Meant, checked_of}
use Rattle.vap_code.specs.declared.Instr.{Instr}
use Rattle.vap_code.specs.Codes.{CodeOf}
use Rattle.vap_code.specs.Machine.{machine}
use Rattle.vap_code.specs.Stores.{first_store}
use Rattle.vap_code.specs.Valid.{Valid}
use Rattle.vap_lex.specs.declared.token.Token.{Token}
use Rattle.vap_lex.specs.Tokens.{HasTokens}
use Rattle.controller.specs.Past.{Site, opening}
use Rattle.det_stream.specs.Stream.{stream_of}
use Rattle.junction_run.specs.declared.stop.PlayStop.{PlayStop}
use Rattle.junction_run.specs.Loading.{program_at}
use Rattle.junction_run.specs.Played.{IsPlayed, IsWritten}
use Rattle.junction_run.specs.Programs.{Runs}
use Rattle.run_seconds.specs.Told.{told_from}
use Rattle.trace_told.specs.Columns.{columns_of}
use Rattle.trace_call.specs.Loaded.{FilesGive, code_for}
use Rattle.trace_told.specs.Printed.{prints_told}
use Rattle.trace_told.specs.Traces.{TraceOf, traces_of}
use Rattle.trace_call.specs.Form.{RunWords}
use Rattle.trace_call.specs.Prints.{WerePrints, prints_by, prints_text, traces_in}
use Rattle.trace_call.proofs.Agrees.{same_told}

-- what a controller of this code at a site printed
prints_are : (traces : List TraceOf) (tokens : List Token) (code code' : CodeOf) (logic : Logic) (site site' : Site) (program : Program)
    (frames : List Counts) → Runs code program → Valid code → traces ≡ traces_in program tokens code →
    code' ≡ code → logic ≡ machine code → site' ≡ site → code ≡ code_for program →
    told_from (prints_told program traces code' site') logic site' (opening site' (first_store code)) frames ≡ prints_text program tokens site frames
unfolding prints_by
prints_are traces tokens code code' logic site site' program frames runs valid these same does at is =
    (λ j. told_from (prints_told program (these j) (same j) (at j)) (does j) (at j) (opening (at j) (first_store code)) frames)
    ∙ same_told code program runs valid (prints_told program (traces_in program tokens code) code site) site frames
    ∙ ap (λ c. prints_by program (traces_in program tokens c) c (program_at site program) frames) is

-- the TRACE statements by the names of the checked program are those by the program's
named_traces : (m : Meant) (tokens : List Token) (instrs : List Instr) (code : CodeOf) (traces : List TraceOf) → m ≡ checked_of m.tree →
    instrs ≡ code.instrs → traces ≡ traces_of m.names (program_of m.tree) (columns_of (program_of m.tree)) tokens instrs →
    traces ≡ traces_in (program_of m.tree) tokens code
named_traces m tokens instrs code traces value here are =
    are ∙ ap (λ (is : List Instr). traces_of m.names (program_of m.tree) (columns_of (program_of m.tree)) tokens is) here
    ∙ ap (λ (n : Meant). traces_of n.names (program_of m.tree) (columns_of (program_of m.tree)) tokens code.instrs) value

-- the whole form
pub were_prints : {A : Type 0} (run : RunWords) (file : Contents) (r : Result A PlayStop) (m : Meant) (traces : List TraceOf) (text : List ℕ)
    (tokens : List Token) (instrs : List Instr) (code code' : CodeOf) (logic : Logic) (site site' : Site) (frames : List Counts) (read : List ℕ)
    (old new : Option (List ℕ)) → FilesGive run.program run.site file site (program_of m.tree) →
    Runs code (program_of m.tree) → Valid code → m ≡ checked_of m.tree → text ≡ file run.program → HasTokens text tokens →
    instrs ≡ code.instrs → traces ≡ traces_of m.names (program_of m.tree) (columns_of (program_of m.tree)) tokens instrs →
    code' ≡ code → logic ≡ machine code → site' ≡ site → code ≡ code_for (program_of m.tree) → read ≡ run.detectors →
    IsWritten r (told_from (prints_told (program_of m.tree) traces code' site') logic site' (opening site' (first_store code)) frames) old new →
    IsPlayed run.detectors r (stream_of (file read)) frames → WerePrints {A = A} run file r old new
were_prints run file r m traces text tokens instrs code code' logic site site' frames read old new gives runs valid value holds spelled here are same does at is named
    written given = record {
      program = program_of m.tree;
      site = site;
      gives = gives;
      tokens = tokens;
      spelled = subst (λ t. HasTokens t tokens) holds spelled;
      frames = frames;
      written = subst (λ t. IsWritten r t old new)
          (prints_are traces tokens code code' logic site site' (program_of m.tree) frames runs valid (named_traces m tokens instrs code traces value here are) same does at is)
          written;
      given = subst (λ n. IsPlayed run.detectors r (stream_of (file n)) frames) named given;
    }
