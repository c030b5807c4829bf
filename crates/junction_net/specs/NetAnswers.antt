-- What the call `net` promises.
use Rattle.std.specs.Prelude.{◌≡◌, ℕ, List, Option, None, Some, false}
use Rattle.std.specs.Option.{ForSome}
use Rattle.std.specs.Io.KnownBytes.{append_known}
use Rattle.sig_io.specs.Outside.{Contents, Rose}
use Rattle.sig_io.specs.Seen.{Seen}
use Rattle.junction_run.specs.declared.status.Status.{Status}
use Rattle.junction_run.specs.declared.status.Status.TheVariants.{Words, ReadFault, WriteFault, RefusedLine}
use Rattle.junction_run.specs.Answers.{WordsAnswer, may_write}
use Rattle.junction_net.specs.Form.{net_form}
use Rattle.junction_net.specs.Net.{Meets, IsNetNote, NoteMeets}

-- The answer to a list of junctions.
pub record NetAnswer (word : List ℕ) (files : Seen Contents) (out notes : Seen (List ℕ)) (status : Status) : Type 0 where
  -- the words are the form, and no line is refused
  pub not_words : status ≡ Words → ⊥
  pub not_line : status ≡ RefusedLine → ⊥
  -- a fault has its cause
  pub read_fault : status ≡ ReadFault → Rose files.before files.after
  pub write_fault : status ≡ WriteFault → Rose out.before out.after
  -- nothing is written but with Done, and before a fault of the sink
  pub unwritten : may_write false status ≡ false → out.new ≡ out.old
  -- where the files tell what they hold, the status is theirs and out has gained the text of all junctions, but for want of
  -- memory and faults
  pub answer : ForSome files.old (λ file. Meets word file status out.old out.new)
  -- notes has taken the status's note, and with Done those of the junctions, unless it failed
  pub note : (Rose notes.before notes.after → ⊥) →
      (note : List ℕ) × (notes.new ≡ append_known notes.old note) × IsNetNote word status note
      × ForSome files.old (λ file. NoteMeets word file status note)

-- the words alone decide whether they are the form
abbrev pub AnswersTo : Option (List ℕ) → Seen Contents → Seen (List ℕ) → Seen (List ℕ) → Status → Type 0
AnswersTo None files out notes status = WordsAnswer out notes status
AnswersTo (Some word) files out notes status = NetAnswer word files out notes status

-- what `net` answers to these words, over files, a sink for the text and one for the notes
abbrev pub NetAnswers : List (List ℕ) → Seen Contents → Seen (List ℕ) → Seen (List ℕ) → Status → Type 0
NetAnswers words files out notes status = AnswersTo (net_form words) files out notes status
