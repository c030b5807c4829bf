-- The values that are told, and why playing stops.
use Rattle.std.specs.Prelude.{◌≡◌, ℕ, List, [], Result, Ok, Err, Vec, slice_index_or}
use Rattle.std.proofs.Common.{Bor}
use Rattle.std.specs.declared.alloc.Global.{Global}
use Rattle.vap_ast.specs.Syntax.{Program}
use Rattle.junction_run.specs.declared.stop.LineReason.TheVariants.{Frame}
use Rattle.junction_run.specs.declared.stop.LoadStop.TheVariants.{Memory}
use Rattle.junction_run.specs.declared.stop.PlayStop.{PlayStop}
use Rattle.junction_run.specs.declared.stop.PlayStop.TheVariants as play
use Rattle.junction_run.specs.declared.stop.Stop.TheVariants.{Load, Play}
use Rattle.run_seconds.specs.declared.play.Stop.{Stop as TellStop}
use Rattle.run_seconds.specs.declared.play.Stop.TheVariants as tell
use Rattle.trace_told.specs.declared.columns.Column.{Column}
use Rattle.trace_told.specs.Columns.{IsUnknown, columns_of}
use Rattle.trace_told.specs.Nearest.{IsNearest}
use Rattle.trace_call.specs.declared.stop.Stop.{Stop}
use Rattle.trace_call.specs.declared.stop.Stop.TheVariants.{Words, NoName, Run}
use Rattle.trace_call.specs.Values.{AllNamed, columns_for}

-- a word names no value of a program; this is the nearest name
pub record IsNotNamed (p : Program) (names : List (List ℕ)) (word nearest : List ℕ) : Type 0 where
  pub place : ℕ
  pub unknown : IsUnknown p (columns_of p) names place
  pub word_is : word ≡ slice_index_or names place []
  pub nearest_is : IsNearest p word (columns_of p) nearest

-- names choose these values of a program, or the first that names none stops; or memory was wanted
abbrev pub IsChosen : Program → List (List ℕ) → Result (Vec Column Global) Stop → Type 0
IsChosen p names (Ok columns) = (columns.items ≡ columns_for p names) × AllNamed p names
IsChosen p names (Err Words) = ⊥
IsChosen p names (Err (NoName word nearest)) = IsNotNamed p names word.now nearest.items
IsChosen p names (Err (Run (Load stop))) = stop ≡ Memory
IsChosen p names (Err (Run (Play stop))) = ⊥

-- why playing a detector file stops
abbrev pub play_stop_of : Bor (List ℕ) → TellStop → PlayStop
play_stop_of word tell.ReadFault = play.ReadFault word
play_stop_of word tell.WriteFault = play.WriteFault
play_stop_of word (tell.Refused line why) = play.RefusedLine word line (Frame why)

-- the stop at a word that names none of these values of a program: with the nearest name, unless memory was wanted
abbrev pub IsNoNameStop : Program → List Column → List ℕ → Stop → Type 0
IsNoNameStop p columns word Words = ⊥
IsNoNameStop p columns word (NoName named nearest) = (named.now ≡ word) × IsNearest p word columns nearest.items
IsNoNameStop p columns word (Run (Load stop)) = stop ≡ Memory
IsNoNameStop p columns word (Run (Play stop)) = ⊥
