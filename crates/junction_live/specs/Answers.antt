-- What the call `live` promises.
use Rattle.std.specs.Prelude.{◌≡◌, ℕ, List, Option, None, Some, false}
use Rattle.std.specs.Option.{ForSome}
use Rattle.std.specs.Io.KnownBytes.{append_known}
use Rattle.sig_io.specs.Outside.{Contents, Rose}
use Rattle.sig_io.specs.Seen.{Seen}
use Rattle.junction_run.specs.declared.status.Status.{Status}
use Rattle.junction_run.specs.declared.status.Status.TheVariants.{Words, ReadFault, WriteFault}
use Rattle.junction_run.specs.Answers.{WordsAnswer, may_write}
use Rattle.junction_run.specs.Notes.{IsNote}
use Rattle.junction_live.specs.Form.{LiveWords, live_form, files_of}
use Rattle.junction_live.specs.Answer.{Meets, NoteMeets}
use Rattle.junction_live.specs.Guarded.{IsGuardedText}

-- The answer to the form of a live run.
pub record LiveAnswer (form : LiveWords) (files : Seen Contents) (out notes : Seen (List ℕ)) (status : Status) : Type 0 where
  -- the words are the form
  pub not_words : status ≡ Words → ⊥
  -- a fault has its cause
  pub read_fault : status ≡ ReadFault → Rose files.before files.after
  pub write_fault : status ≡ WriteFault → Rose out.before out.after
  -- nothing is written but with Done, and before a fault of the sink
  pub unwritten : may_write false status ≡ false → out.new ≡ out.old
  -- where the files tell what they hold, the status is the answer's and out has gained its text, but for want of memory and
  -- faults
  pub answer : ForSome files.old (λ file. Meets form file status out.old out.new)
  -- what was written keeps the guard's rules, whatever the files tell
  pub safe : IsGuardedText form.watchers out.old out.new
  -- notes has taken the status's note, unless it failed; where the files tell what they hold, it is the answer's
  pub note : (Rose notes.before notes.after → ⊥) →
      (note : List ℕ) × (notes.new ≡ append_known notes.old note) × IsNote (files_of form) status note
      × ForSome files.old (λ file. NoteMeets form file status note)

-- the words alone decide whether they are the form
abbrev pub AnswersTo : Option LiveWords → Seen Contents → Seen (List ℕ) → Seen (List ℕ) → Status → Type 0
AnswersTo None files out notes status = WordsAnswer out notes status
AnswersTo (Some form) files out notes status = LiveAnswer form files out notes status

-- what `live` answers to these words, over files, a sink for the text and one for the note
abbrev pub LiveAnswers : List (List ℕ) → Seen Contents → Seen (List ℕ) → Seen (List ℕ) → Status → Type 0
LiveAnswers words files out notes status = AnswersTo (live_form words) files out notes status
