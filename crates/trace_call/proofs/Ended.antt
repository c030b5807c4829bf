-- What `how-ended` wrote, of what its parts answer.
use Rattle.std.proofs.Common.{◌≡◌, ◌∙◌, ◌++◌, [], ℕ, Bool, List, length, Option, Result, Err, Bor, ap, sym, subst}
use Rattle.sig_io.specs.Outside.{Contents}
use Rattle.sig_types.specs.Counts.{Counts}
use Rattle.sig_types.specs.Pass.{Logic}
use Rattle.vap_ast.specs.Syntax.{Program}
use Rattle.vap_code.specs.Codes.{CodeOf}
use Rattle.vap_code.specs.Machine.{machine}
use Rattle.vap_code.specs.Stores.{first_store}
use Rattle.vap_code.specs.Valid.{Valid}
use Rattle.pua_model.specs.Plan.{PlanOf}
use Rattle.stage_machine.specs.Orders.{Order}
use Rattle.controller.specs.declared.controller.Controller.{Controller}
use Rattle.controller.specs.Controls.{code_of, plan_of, site_of}
use Rattle.controller.specs.Past.{Past, Site, opening}
use Rattle.det_stream.specs.Stream.{stream_of}
use Rattle.junction_run.specs.declared.stop.PlayStop.{PlayStop}
use Rattle.junction_run.specs.Loading.{program_at}
use Rattle.junction_run.specs.Played.{IsPlayed, IsWritten}
use Rattle.junction_run.specs.Programs.{Runs}
use Rattle.run_seconds.specs.Told as told
use Rattle.run_seconds.specs.Told.{told_from}
use Rattle.run_seconds.specs.declared.play.Stop.{Stop as TellStop}
use Rattle.trace_call.specs.Chosen.{play_stop_of}
use Rattle.trace_call.proofs.Ends.{written_stop}
use Rattle.trace_told.specs.declared.end_rows.Ends.{Ends}
use Rattle.trace_told.specs.EndsKnown.{AreStages, KnowsStages}
use Rattle.trace_told.proofs.EndSeconds.{same_plan}
use Rattle.trace_told.specs.EndRows.{end_told, header_text}
use Rattle.trace_call.specs.Loaded.{FilesGive, code_for}
use Rattle.trace_call.specs.Form.{EndsWords}
use Rattle.trace_call.specs.HowEnded.{WereEnds, ends_by, ends_text}
use Rattle.trace_call.proofs.Agrees.{same_told}

-- what a controller of this code at a site told
ends_are : (csv : Bool) (code code' : CodeOf) (logic : Logic) (site site' : Site) (program : Program) (frames : List Counts) → Runs code program → Valid code →
    code' ≡ code → logic ≡ machine code → site' ≡ site → code ≡ code_for program →
    header_text csv ++ told_from (end_told csv code' site') logic site' (opening site' (first_store code)) frames ≡ ends_text csv program site frames
unfolding ends_by
ends_are csv code code' logic site site' program frames runs valid same does at is =
    (λ j. header_text csv ++ told_from (end_told csv (same j) (at j)) (does j) (at j) (opening (at j) (first_store code)) frames)
    ∙ ap (λ t. header_text csv ++ t) (same_told code program runs valid (end_told csv code site) site frames)
    ∙ ap (λ c. ends_by csv c (program_at site program) frames) is

-- the whole form
pub were_ends : {A : Type 0} (asked : EndsWords) (file : Contents) (r : Result A PlayStop) (code code' : CodeOf) (logic : Logic) (site site' : Site)
    (program : Program) (frames : List Counts) (read : List ℕ) (old new : Option (List ℕ)) →
    FilesGive asked.run.program asked.run.site file site program → Runs code program → Valid code →
    code' ≡ code → logic ≡ machine code → site' ≡ site → code ≡ code_for program → read ≡ asked.run.detectors →
    IsWritten r (header_text asked.csv ++ told_from (end_told asked.csv code' site') logic site' (opening site' (first_store code)) frames) old new →
    IsPlayed asked.run.detectors r (stream_of (file read)) frames → WereEnds {A = A} asked file r old new
were_ends asked file r code code' logic site site' program frames read old new gives runs valid same does at is named written given = record {
  program = program;
  site = site;
  gives = gives;
  frames = frames;
  written = subst (λ t. IsWritten r t old new) (ends_are asked.csv code code' logic site site' program frames runs valid same does at is) written;
  given = subst (λ n. IsPlayed asked.run.detectors r (stream_of (file n)) frames) named given;
}

-- what is known of the stages before the first second
pub known_first : (c : Controller) (ends : Ends) (plan : PlanOf) (first : Past) → plan ≡ plan_of c → first.frames ≡ [] → first.orders ≡ [] →
    AreStages ends plan [] 0 → KnowsStages ends (code_of c) (site_of c) first []
known_first c ends plan first at none unordered known =
    subst (λ (os : List Order). AreStages ends (site_of c).plan os (length first.frames)) (sym unordered)
    (subst (λ (fs : List Counts). AreStages ends (site_of c).plan [] (length fs)) (sym none)
    (subst (λ (p : PlanOf). AreStages ends p [] 0) (at ∙ same_plan c) known))

-- what was written where telling stopped, in a table or in words
pub written_stop_either : (stop : TellStop) (word : Bor (List ℕ)) (text : Bool → List ℕ) (a b : Bool) → a ≡ b → (old new : Option (List ℕ)) →
    told.IsWritten {A = Unit {0}} (Err stop) (text a) old new → IsWritten {A = Unit {0}} (Err (play_stop_of word stop)) (text b) old new
written_stop_either stop word text a b same old new is =
    subst (λ (csv : Bool). IsWritten {A = Unit {0}} (Err (play_stop_of word stop)) (text csv) old new) same (written_stop stop word (text a) old new is)
