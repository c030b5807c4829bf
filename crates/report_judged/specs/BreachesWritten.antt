-- What was written of a log that was judged.
use Rattle.std.specs.Prelude.{◌≡◌, ℕ, List, Option, Result, Ok, Err}
use Rattle.std.specs.Io.KnownBytes.{append_known}
use Rattle.sig_io.specs.Draft.{IsCut}
use Rattle.report_words.specs.declared.stop.JudgeStop.{JudgeStop}
use Rattle.report_words.specs.declared.stop.JudgeStop.TheVariants.{WriteFault}

-- a sink has taken the text, or only its first bytes, and failed
abbrev pub IsWritten : List ℕ → Result (Unit {0}) JudgeStop → Option (List ℕ) → Option (List ℕ) → Type 0
IsWritten text (Ok x) old new = new ≡ append_known old text
IsWritten text (Err stop) old new = (stop ≡ WriteFault) × ((n : ℕ) × IsCut old new n text)
