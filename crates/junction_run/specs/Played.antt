-- What is played.
use Rattle.std.specs.Prelude.{◌≡◌, ℕ, List, Option, None, Some, Result, Ok, Err}
use Rattle.std.specs.Io.KnownBytes.{append_known}
use Rattle.sig_io.specs.Draft.{IsCut}
use Rattle.sig_types.specs.Counts.{Counts}
use Rattle.sig_types.specs.Pass.{Store}
use Rattle.controller.specs.declared.controller.Controller.{Controller}
use Rattle.controller.specs.Controls.{site_of, logic_of}
use Rattle.det_stream.specs.declared.refusal.StreamWhy.{StreamWhy}
use Rattle.det_stream.specs.Stream.{Stream}
use Rattle.run_seconds.specs.Told.{BeginsWith}
use Rattle.run_seconds.specs.declared.play.Stop.{Stop as Seconds}
use Rattle.run_seconds.specs.declared.play.Stop.TheVariants as seconds
use Rattle.junction_run.specs.declared.stop.LineReason.{LineReason}
use Rattle.junction_run.specs.declared.stop.LineReason.TheVariants.{Frame, Record}
use Rattle.junction_run.specs.declared.stop.LoadStop.TheVariants as load
use Rattle.junction_run.specs.declared.stop.PlayStop.{PlayStop}
use Rattle.junction_run.specs.declared.stop.PlayStop.TheVariants.{ReadFault, WriteFault, RefusedLine}
use Rattle.junction_run.specs.declared.stop.Stop.{Stop}
use Rattle.junction_run.specs.declared.stop.Stop.TheVariants.{Load, Play}
use Rattle.junction_run.specs.Loading.{Playing}
use Rattle.junction_run.specs.Records.{log_of}

-- what a controller plays that began with this store
abbrev pub playing_of : Controller → Store → Playing
playing_of controller store = record { logic = logic_of controller; store = store; site = site_of controller }

-- the seconds stopped for this line, which is no frame for this reason
abbrev pub IsRefusedAt : Seconds → ℕ → LineReason → Type 0
IsRefusedAt stop line (Frame why) = stop ≡ seconds.Refused line why
IsRefusedAt stop line (Record why) = ⊥

-- why the seconds of the file of this name stopped, as a stop of a command
abbrev pub IsStopAt : List ℕ → Seconds → PlayStop → Type 0
IsStopAt name stop (ReadFault word) = (word.now ≡ name) × (stop ≡ seconds.ReadFault)
IsStopAt name stop WriteFault = stop ≡ seconds.WriteFault
IsStopAt name stop (RefusedLine word line reason) = (word.now ≡ name) × IsRefusedAt stop line reason

-- Playing wrote the log of the frames that were given, or only a front of it.
abbrev pub IsWritten : {A : Type 0} → Result A PlayStop → List ℕ → Option (List ℕ) → Option (List ℕ) → Type 0
IsWritten (Ok x) log old new = new ≡ append_known old log
IsWritten (Err (ReadFault word)) log old new = new ≡ append_known old log
IsWritten (Err WriteFault) log old new = (n : ℕ) × IsCut old new n log
IsWritten (Err (RefusedLine word line reason)) log old new = new ≡ append_known old log

-- this line is the first that is no frame, and this is the reason
abbrev pub IsNoFrame : Option (ℕ × StreamWhy) → ℕ → LineReason → Type 0
IsNoFrame refusal line (Frame why) = refusal ≡ Some (line, why)
IsNoFrame refusal line (Record why) = ⊥

-- Playing was given these frames of a detector file: all up to its end or its first refused line, or the first ones.
abbrev pub IsPlayed : {A : Type 0} → List ℕ → Result A PlayStop → Stream → List Counts → Type 0
IsPlayed name (Ok x) stream frames = (stream.frames ≡ frames) × (stream.refusal ≡ None)
IsPlayed name (Err (ReadFault word)) stream frames = (word.now ≡ name) × BeginsWith stream frames
IsPlayed name (Err WriteFault) stream frames = BeginsWith stream frames
IsPlayed name (Err (RefusedLine word line reason)) stream frames =
    (word.now ≡ name) × (stream.frames ≡ frames) × IsNoFrame stream.refusal line reason

-- A detector file was played so: the log of the frames that were given was written.
pub record WasPlayed {A : Type 0} (playing : Playing) (name : List ℕ) (stream : Stream) (r : Result A PlayStop)
    (old new : Option (List ℕ)) : Type 0 where
  pub frames : List Counts
  pub written : IsWritten r (log_of playing frames) old new
  pub given : IsPlayed name r stream frames

-- the same at a site, for which memory may have been wanted before anything was written
abbrev pub IsPlayedAt : {A : Type 0} → Playing → (name : List ℕ) → Stream → Result A Stop → Option (List ℕ) → Option (List ℕ) → Type 0
IsPlayedAt {A} playing name stream (Ok x) old new = WasPlayed {A = A} playing name stream (Ok x) old new
IsPlayedAt playing name stream (Err (Load stop)) old new = (stop ≡ load.Memory) × (new ≡ old)
IsPlayedAt {A} playing name stream (Err (Play stop)) old new = WasPlayed {A = A} playing name stream (Err stop) old new
