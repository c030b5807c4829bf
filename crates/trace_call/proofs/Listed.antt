-- What `second` wrote, of what its parts answer.
use Rattle.std.proofs.Common.{◌≡◌, ◌∙◌, ◌-◌, ℕ, List, Option, Result, ap, subst}
use Rattle.sig_io.specs.Outside.{Contents}
use Rattle.sig_types.specs.Counts.{Counts}
use Rattle.sig_types.specs.Pass.{Logic}
use Rattle.vap_ast.specs.Syntax.{Program}
use Rattle.vap_code.specs.Codes.{CodeOf}
use Rattle.vap_code.specs.Machine.{machine}
use Rattle.vap_code.specs.Stores.{first_store}
use Rattle.vap_code.specs.Valid.{Valid}
use Rattle.controller.specs.Past.{Site, opening}
use Rattle.det_stream.specs.Stream.{stream_of}
use Rattle.junction_run.specs.declared.stop.PlayStop.{PlayStop}
use Rattle.junction_run.specs.Loading.{program_at}
use Rattle.junction_run.specs.Played.{IsPlayed, IsWritten}
use Rattle.junction_run.specs.Programs.{Runs}
use Rattle.run_seconds.specs.Told.{told_from}
use Rattle.trace_told.specs.declared.columns.Column.{Column}
use Rattle.trace_told.specs.Columns.{columns_of}
use Rattle.trace_call.specs.Loaded.{FilesGive, code_for}
use Rattle.trace_told.specs.Listing.{second_told}
use Rattle.trace_call.specs.Form.{SecondWords}
use Rattle.trace_call.specs.Second.{WasListed, second_by, second_text}
use Rattle.trace_call.proofs.Agrees.{same_told}

-- what a controller of this code at a site told
listing_is : (second before : ℕ) (code code' : CodeOf) (logic : Logic) (site site' : Site) (program told : Program) (columns : List Column) (frames : List Counts) →
    Runs code program → Valid code → code' ≡ code → logic ≡ machine code → site' ≡ site → code ≡ code_for program →
    told ≡ program → columns ≡ columns_of program → before ≡ second - 1 →
    told_from (second_told told columns before code' site') logic site' (opening site' (first_store code)) frames ≡ second_text second program site frames
unfolding second_by
listing_is second before code code' logic site site' program told columns frames runs valid same does at is of all so =
    (λ j. told_from (second_told (of j) (all j) (so j) (same j) (at j)) (does j) (at j) (opening (at j) (first_store code)) frames)
    ∙ same_told code program runs valid (second_told program (columns_of program) (second - 1) code site) site frames
    ∙ ap (λ c. second_by program second c (program_at site program) frames) is

-- the whole form
pub was_listed : {A : Type 0} (asked : SecondWords) (file : Contents) (r : Result A PlayStop) (before : ℕ) (code code' : CodeOf) (logic : Logic)
    (site site' : Site) (program told : Program) (columns : List Column) (frames : List Counts) (read : List ℕ) (old new : Option (List ℕ)) →
    FilesGive asked.run.program asked.run.site file site program → Runs code program → Valid code →
    code' ≡ code → logic ≡ machine code → site' ≡ site → code ≡ code_for program → told ≡ program → columns ≡ columns_of program → before ≡ asked.second - 1 →
    read ≡ asked.run.detectors →
    IsWritten r (told_from (second_told told columns before code' site') logic site' (opening site' (first_store code)) frames) old new →
    IsPlayed asked.run.detectors r (stream_of (file read)) frames → WasListed {A = A} asked file r old new
was_listed asked file r before code code' logic site site' program told columns frames read old new gives runs valid same does at is of all so named written given = record {
  program = program;
  site = site;
  gives = gives;
  frames = frames;
  written = subst (λ t. IsWritten r t old new) (listing_is asked.second before code code' logic site site' program told columns frames runs valid same does at is of all so) written;
  given = subst (λ n. IsPlayed asked.run.detectors r (stream_of (file n)) frames) named given;
}
