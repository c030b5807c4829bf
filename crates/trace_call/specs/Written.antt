-- What is written of a text that is told whole.
use Rattle.std.specs.Prelude.{◌≡◌, ℕ, List, Option, Result, Ok, Err}
use Rattle.std.specs.Io.KnownBytes.{append_known}
use Rattle.sig_io.specs.Draft.{IsCut}
use Rattle.junction_run.specs.declared.stop.PlayStop.TheVariants as play
use Rattle.junction_run.specs.declared.stop.Stop.TheVariants.{Play}
use Rattle.trace_call.specs.declared.stop.Stop.{Stop}
use Rattle.trace_call.specs.declared.stop.Stop.TheVariants.{Run}

-- a text was written, or only its first bytes, where the sink failed
abbrev pub IsWritten : {A : Type 0} → List ℕ → Result A Stop → Option (List ℕ) → Option (List ℕ) → Type 0
IsWritten text (Ok x) old new = new ≡ append_known old text
IsWritten text (Err stop) old new = (stop ≡ Run (Play play.WriteFault)) × ((n : ℕ) × IsCut old new n text)
