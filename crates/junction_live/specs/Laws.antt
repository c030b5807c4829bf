-- Laws over the definitions alone.
use Rattle.std.specs.Prelude.{◌≡◌, ℕ, List, Option, Some, ◌⊎◌, Result}
use Rattle.sig_io.specs.Outside.{Contents, Rose}
use Rattle.sig_io.specs.Seen.{Seen}
use Rattle.junction_run.specs.declared.status.Status.{Status}
use Rattle.junction_run.specs.declared.status.Status.TheVariants.{Memory}
use Rattle.sig_types.specs.Counts.{Counts}
use Rattle.junction_run.specs.Guarded.{IsGuardedLog}
use Rattle.junction_run.specs.Loading.{Playing, Unloaded}
use Rattle.junction_live.specs.Form.{LiveWords}
use Rattle.junction_live.specs.Answer.{IsWholeLog, IsBegunLog, IsWholeText, IsBegunText, Loads, answer_to}
use Rattle.junction_live.specs.Answers.{LiveAnswer}
use Rattle.junction_live.specs.Guarded.{IsGuardedText}

-- where the files give this, and no count of faults rose, the status is its answer's, or memory was wanted
abbrev pub IsComplete : Type 0
IsComplete =
    (form : LiveWords) (file : Contents) (r : Result Playing Unloaded) →
    (files : Seen Contents) (out notes : Seen (List ℕ)) (status : Status) →
    files.old ≡ Some file → Loads form file r →
    (Rose files.before files.after → ⊥) → (Rose out.before out.after → ⊥) → LiveAnswer form files out notes status →
    (status ≡ (answer_to form file r).status) ⊎ (status ≡ Memory)

-- without watchers the whole text is the log, and what was begun is one
pub record TextIsLog : Type 0 where
  pub whole : (playing : Playing) (frames : List Counts) (text : List ℕ) → IsWholeText 0 playing frames text →
      IsWholeLog playing frames text
  pub log : (playing : Playing) (frames : List Counts) (text : List ℕ) → IsWholeLog playing frames text →
      IsWholeText 0 playing frames text
  pub begun : (playing : Playing) (frames : List Counts) (text : List ℕ) → IsBegunText 0 playing frames text →
      IsBegunLog playing frames text
  pub guarded : (old new : Option (List ℕ)) → IsGuardedText 0 old new → IsGuardedLog old new
