-- What the top call promises.
use Rattle.std.specs.Prelude.{◌≡◌, ℕ, Bool, true, false, List, Option, None, Some, codes}
use Rattle.std.specs.Option.{ForSome}
use Rattle.std.specs.Io.KnownBytes.{append_known}
use Rattle.sig_io.specs.Outside.{Contents, Rose}
use Rattle.sig_io.specs.Seen.{Seen}
use Rattle.junction_run.specs.declared.status.Status.{Status}
use Rattle.junction_run.specs.declared.status.Status.TheVariants.{Done, Memory, Words, ReadFault, WriteFault, RefusedFile, RefusedLine, TooLong}
use Rattle.junction_run.specs.Form.{Form, form_of, files_of, reads_lines, writes_lines}
use Rattle.junction_run.specs.Answer.{Meets, note_of}
use Rattle.junction_run.specs.Guarded.{IsSafe}
use Rattle.junction_run.specs.Notes.{IsNote, NoteMeets}

-- whether out may have gained anything with this status, where what is made of a line is written before the next is read, or not
abbrev pub may_write : Bool → Status → Bool
may_write lines Done = true
may_write lines Memory = false
may_write lines Words = false
may_write lines ReadFault = lines
may_write lines WriteFault = true
may_write lines RefusedFile = false
may_write lines RefusedLine = lines
may_write lines TooLong = false

-- The answer to words that are no form: nothing is written.
pub record WordsAnswer (out notes : Seen (List ℕ)) (status : Status) : Type 0 where
  pub is : status ≡ Words
  pub unwritten : out.new ≡ out.old
  -- notes has taken the note, unless it failed
  pub note : (Rose notes.before notes.after → ⊥) → notes.new ≡ append_known notes.old (note_of (codes "Words"))

-- The answer to a form.
pub record FormAnswer (form : Form) (files : Seen Contents) (out notes : Seen (List ℕ)) (status : Status) : Type 0 where
  -- the words are a form
  pub not_words : status ≡ Words → ⊥
  -- a fault has its cause
  pub read_fault : status ≡ ReadFault → Rose files.before files.after
  pub write_fault : status ≡ WriteFault → Rose out.before out.after
  -- nothing is written but with Done, before a fault of what was begun, and before a refused line
  pub unwritten : may_write (writes_lines form) status ≡ false → out.new ≡ out.old
  -- a line is refused by what reads lines alone
  pub line : status ≡ RefusedLine → reads_lines form ≡ true
  -- where the files tell what they hold, the status is the answer's and out has gained its text, but for want of memory and
  -- faults
  pub answer : ForSome files.old (λ file. Meets form file status out.old out.new)
  -- what was written keeps the guard's rules, whatever the files tell
  pub safe : IsSafe form out.old out.new
  -- notes has taken the status's note, unless it failed; where the files tell what they hold, it is the answer's
  pub note : (Rose notes.before notes.after → ⊥) →
      (note : List ℕ) × (notes.new ≡ append_known notes.old note) × IsNote (files_of form) status note
      × ForSome files.old (λ file. NoteMeets form file status note)

-- the words alone decide whether they are a form
abbrev pub AnswersTo : Option Form → Seen Contents → Seen (List ℕ) → Seen (List ℕ) → Status → Type 0
AnswersTo None files out notes status = WordsAnswer out notes status
AnswersTo (Some form) files out notes status = FormAnswer form files out notes status

-- what the top call answers to these words, over files, a sink for the text and one for the note
abbrev pub JunctionAnswers : List (List ℕ) → Seen Contents → Seen (List ℕ) → Seen (List ℕ) → Status → Type 0
JunctionAnswers words files out notes status = AnswersTo (form_of words) files out notes status
