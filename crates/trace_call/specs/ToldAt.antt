-- What was told at a site.
use Rattle.std.specs.Prelude.{◌≡◌, ◌++◌, ℕ, List, Option, Result, Ok, Err}
use Rattle.sig_types.specs.Counts.{Counts}
use Rattle.vap_ast.specs.Syntax.{Program}
use Rattle.det_stream.specs.Stream.{Stream}
use Rattle.junction_run.specs.declared.load.Site.{Site as Loaded}
use Rattle.junction_run.specs.declared.stop.LoadStop.TheVariants as load
use Rattle.junction_run.specs.declared.stop.PlayStop.{PlayStop}
use Rattle.junction_run.specs.declared.stop.Stop.{Stop}
use Rattle.junction_run.specs.declared.stop.Stop.TheVariants.{Load, Play}
use Rattle.junction_run.specs.Played.{IsPlayed, IsWritten}
use Rattle.junction_run.specs.Sites.{playing_in}
use Rattle.trace_told.specs.declared.columns.Column.{Column}
use Rattle.trace_told.specs.ValueRows.{header_text}
use Rattle.trace_call.specs.Values.{rows_text}

-- a detector file was played at a site: the values that the code's seconds left were written
pub record WasToldAt {A : Type 0} (site : Loaded) (program : Program) (columns : List Column) (first last : ℕ) (name : List ℕ)
    (stream : Stream) (r : Result A PlayStop) (old new : Option (List ℕ)) : Type 0 where
  pub frames : List Counts
  pub written : IsWritten r (header_text program columns ++ rows_text first last columns (playing_in site) frames) old new
  pub given : IsPlayed name r stream frames

-- the same, where memory may have been wanted before anything was written
abbrev pub IsToldAt : {A : Type 0} → Loaded → Program → List Column → (first last : ℕ) → List ℕ → Stream → Result A Stop →
    Option (List ℕ) → Option (List ℕ) → Type 0
IsToldAt {A} site p columns first last name stream (Ok x) old new = WasToldAt {A = A} site p columns first last name stream (Ok x) old new
IsToldAt site p columns first last name stream (Err (Load stop)) old new = (stop ≡ load.Memory) × (new ≡ old)
IsToldAt {A} site p columns first last name stream (Err (Play stop)) old new =
    WasToldAt {A = A} site p columns first last name stream (Err stop) old new
