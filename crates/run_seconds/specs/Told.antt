-- What is told of the seconds of a run.
use Rattle.std.specs.Prelude.{◌≡◌, ℕ, Bool, IsTrue, List, [], ◌∷◌, ◌++◌, Option, None, Some, Result, Ok, Err}
use Rattle.std.specs.Io.KnownBytes.{append_known}
use Rattle.sig_io.specs.Draft.{IsCut}
use Rattle.sig_types.specs.Counts.{Counts}
use Rattle.sig_types.specs.Pass.{Logic}
use Rattle.controller.specs.Past.{Site, Past}
use Rattle.controller.specs.Second.{past_after_second}
use Rattle.det_stream.specs.Stream.{Stream}
use Rattle.run_seconds.specs.declared.play.Stop.{Stop}
use Rattle.run_seconds.specs.declared.play.Stop.TheVariants.{ReadFault, WriteFault, Refused}

-- what is told of the seconds after a past with these frames, one after the other, where this is told of each of them
abbrev pub told_from : (Past → Counts → List ℕ) → Logic → Site → Past → List Counts → List ℕ
told_from row logic site past [] = []
told_from row logic site past (f ∷ fs) = row past f ++ told_from row logic site (past_after_second logic site past f) fs

-- these are the first frames of a detector file
abbrev pub BeginsWith : Stream → List Counts → Type 0
BeginsWith stream frames = (rest : List Counts) × (stream.frames ≡ frames ++ rest)

-- these frames of a detector file were told of: all up to its end or its first refused line, or the first ones
abbrev pub IsPlayed : {A : Type 0} → Result A Stop → Stream → List Counts → Type 0
IsPlayed (Ok x) stream frames = (stream.frames ≡ frames) × (stream.refusal ≡ None)
IsPlayed (Err ReadFault) stream frames = BeginsWith stream frames
IsPlayed (Err WriteFault) stream frames = BeginsWith stream frames
IsPlayed (Err (Refused line why)) stream frames = (stream.frames ≡ frames) × (stream.refusal ≡ Some (line, why))

-- the text was written whole, or only its first bytes where the sink failed
abbrev pub IsWritten : {A : Type 0} → Result A Stop → List ℕ → Option (List ℕ) → Option (List ℕ) → Type 0
IsWritten (Ok x) text old new = new ≡ append_known old text
IsWritten (Err ReadFault) text old new = new ≡ append_known old text
IsWritten (Err WriteFault) text old new = (n : ℕ) × IsCut old new n text
IsWritten (Err (Refused line why)) text old new = new ≡ append_known old text

-- the seconds stopped so, where the draft of what is told failed or not
abbrev pub IsStop : Bool → Stop → Type 0
IsStop failed ReadFault = Unit {0}
IsStop failed WriteFault = IsTrue failed
IsStop failed (Refused line why) = Unit {0}
