-- How the parts of a live run end.
use Rattle.std.specs.Prelude.{◌≡◌, ℕ, List, Option, None, Some, Result, Ok, Err}
use Rattle.std.specs.Io.KnownBytes.{append_known}
use Rattle.sig_io.specs.Draft.{IsCut}
use Rattle.sig_types.specs.Counts.{Counts}
use Rattle.sig_types.specs.Turns.{History}
use Rattle.controller.specs.Past.{opening}
use Rattle.det_stream.specs.Answers.{IsStream}
use Rattle.det_stream.specs.Stream.{Stream, stream_of}
use Rattle.junction_run.specs.declared.stop.LoadStop.TheVariants as load
use Rattle.junction_run.specs.declared.stop.PlayStop.TheVariants.{ReadFault, WriteFault, RefusedLine}
use Rattle.junction_run.specs.declared.stop.Stop.{Stop}
use Rattle.junction_run.specs.declared.stop.Stop.TheVariants.{Load, Play}
use Rattle.junction_run.specs.Loading.{Playing}
use Rattle.junction_run.specs.Played.{IsNoFrame}
use Rattle.junction_live.specs.Answer.{IsWholeLog, IsBegunLog, IsWholeText, IsBegunText}
use Rattle.junction_live.specs.Outcome.{pictures_of}

-- a whole detector file with these bytes was read so
abbrev pub IsTaken : (name bytes : List ℕ) → Result (List Counts) Stop → Type 0
IsTaken name bytes (Ok frames) = IsStream bytes frames None
IsTaken name bytes (Err (Load stop)) = stop ≡ load.Memory
IsTaken name bytes (Err (Play (ReadFault word))) = word.now ≡ name
IsTaken name bytes (Err (Play WriteFault)) = ⊥
IsTaken name bytes (Err (Play (RefusedLine word line reason))) =
    (word.now ≡ name) × IsNoFrame (stream_of bytes).refusal line reason

-- out gained the whole log of a live run over these frames, and of its pictures holds what `Given` says
abbrev pub GainedLog : (History → Type 0) → Playing → List Counts → Option (List ℕ) → Option (List ℕ) → Type 0
GainedLog Given playing frames old new =
    (text : List ℕ) × (whole : IsWholeLog playing frames text) × (new ≡ append_known old text)
    × Given (pictures_of playing.logic playing.site (opening playing.site playing.store) whole.made)

-- out gained a front of the log of a live run over these frames, and not all of it
abbrev pub GainedFront : Playing → List Counts → Option (List ℕ) → Option (List ℕ) → Type 0
GainedFront playing frames old new = (text : List ℕ) × IsBegunLog playing frames text × (n : ℕ) × IsCut old new n text

-- the log over these frames was written so
abbrev pub WroteLog : {A E : Type 0} → (A → History → Type 0) → Result A E → List Counts → Playing → Option (List ℕ) → Option (List ℕ) → Type 0
WroteLog Given (Ok x) frames playing old new = GainedLog (Given x) playing frames old new
WroteLog Given (Err fault) frames playing old new = GainedFront playing frames old new

-- out gained the whole text of a live run with so many watchers
abbrev pub GainedText : ℕ → Playing → List Counts → Option (List ℕ) → Option (List ℕ) → Type 0
GainedText watchers playing frames old new =
    (text : List ℕ) × IsWholeText watchers playing frames text × (new ≡ append_known old text)

-- out gained a front of what was begun of it
abbrev pub GainedBegun : ℕ → Playing → List Counts → Option (List ℕ) → Option (List ℕ) → Type 0
GainedBegun watchers playing frames old new =
    (text : List ℕ) × IsBegunText watchers playing frames text × (n : ℕ) × IsCut old new n text

-- the text over these frames was written so
abbrev pub Wrote : {A E : Type 0} → ℕ → Result A E → List Counts → Playing → Option (List ℕ) → Option (List ℕ) → Type 0
Wrote watchers (Ok x) frames playing old new = GainedText watchers playing frames old new
Wrote watchers (Err fault) frames playing old new = GainedBegun watchers playing frames old new

-- a detector file that is read as this stream was played so
abbrev pub IsPlayed : {A : Type 0} → (watchers : ℕ) (name : List ℕ) → Stream → Playing → Result A Stop → Option (List ℕ) → Option (List ℕ) → Type 0
IsPlayed watchers name stream playing (Ok x) old new =
    (stream.refusal ≡ None) × GainedText watchers playing stream.frames old new
IsPlayed watchers name stream playing (Err (Load stop)) old new = (stop ≡ load.Memory) × (new ≡ old)
IsPlayed watchers name stream playing (Err (Play (ReadFault word))) old new = (word.now ≡ name) × (new ≡ old)
IsPlayed watchers name stream playing (Err (Play WriteFault)) old new =
    (stream.refusal ≡ None) × GainedBegun watchers playing stream.frames old new
IsPlayed watchers name stream playing (Err (Play (RefusedLine word line reason))) old new =
    (word.now ≡ name) × IsNoFrame stream.refusal line reason × (new ≡ old)
