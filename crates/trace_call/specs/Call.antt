-- What a call of `junction_trace` answers.
use Rattle.std.specs.Prelude.{◌≡◌, ◌++◌, ℕ, List, codes, Option, None, Some, Result, Ok, Err}
use Rattle.std.specs.Option.{ForSome}
use Rattle.std.specs.Io.KnownBytes.{append_known}
use Rattle.sig_io.specs.Outside.{Contents, Rose}
use Rattle.sig_io.specs.Seen.{Seen}
use Rattle.sig_io.specs.Version.{version_line}
use Rattle.junction_run.specs.declared.status.Status.{Status}
use Rattle.junction_run.specs.declared.status.Status.TheVariants.{Done, ReadFault, WriteFault}
use Rattle.junction_run.specs.Stop.{StopsWith}
use Rattle.trace_call.specs.declared.stop.Stop.{Stop}
use Rattle.trace_call.specs.declared.stop.Stop.TheVariants.{Words}
use Rattle.trace_call.specs.Form.{Asked, Help, HowEnded, Lines, Second, Trace, Version, Values, form_of}
use Rattle.trace_call.specs.HowEnded.{IsHowEnded}
use Rattle.trace_call.specs.Lines.{IsLines}
use Rattle.trace_call.specs.Notes.{status_of, stop_note}
use Rattle.trace_call.specs.Prints.{IsTrace}
use Rattle.trace_call.specs.Second.{IsSecond}
use Rattle.trace_call.specs.Values.{IsValues}
use Rattle.trace_call.specs.Written.{IsWritten}

-- how it is called
unfoldable pub usage_text : List ℕ
usage_text =
    codes "junction_trace values PROGRAM PUA TIMES INTERGREENS DETECTORS [NAME ..] [--from N] [--to N]\n"
    ++ codes "    a table of the program's variables, timers and cells after each second, as CSV\n"
    ++ codes "junction_trace how-ended PROGRAM PUA TIMES INTERGREENS DETECTORS [--csv]\n"
    ++ codes "    for each end of a stage the line of the command that ended it, in words or as CSV\n"
    ++ codes "junction_trace lines PROGRAM PUA TIMES INTERGREENS DETECTORS [--csv | --lcov] [--add DETECTORS ..]\n"
    ++ codes "    how often its lines ran and its tests were answered: beside its text, as CSV or for lcov\n"
    ++ codes "junction_trace second PROGRAM PUA TIMES INTERGREENS DETECTORS N\n"
    ++ codes "    the listing of second N: what ran, was read, tested, assigned and commanded, in order\n"
    ++ codes "junction_trace trace PROGRAM PUA TIMES INTERGREENS DETECTORS\n"
    ++ codes "    what its TRACE statements print, a line for each call\n"
    ++ codes "junction_trace --help | --version\n    this text; the version\n"

-- which version it is
abbrev pub version_text : List ℕ
version_text = version_line (codes "junction_trace")

-- what is asked for was done so, over files that tell this
abbrev pub IsDone : {A : Type 0} → Asked → Contents → Result A Stop → Option (List ℕ) → Option (List ℕ) → Type 0
IsDone Help file r old new = IsWritten usage_text r old new
IsDone Version file r old new = IsWritten version_text r old new
IsDone (Values asked) file r old new = IsValues asked file r old new
IsDone (HowEnded asked) file r old new = IsHowEnded asked file r old new
IsDone (Lines asked) file r old new = IsLines asked file r old new
IsDone (Second asked) file r old new = IsSecond asked file r old new
IsDone (Trace run) file r old new = IsTrace run file r old new

-- how a call ends that gives this
abbrev pub status_by : Result (Unit {0}) Stop → Status
status_by (Ok x) = Done
status_by (Err stop) = status_of stop

-- the note of a call that gives this: none where all was done
abbrev pub IsNoted : Result (Unit {0}) Stop → Seen (List ℕ) → Type 0
IsNoted (Ok x) notes = notes.new ≡ notes.old
IsNoted (Err stop) notes = (Rose notes.before notes.after → ⊥) → notes.new ≡ append_known notes.old (stop_note stop)

-- words that are no form are not answered; what a form asks for is answered where the files tell what they hold
abbrev pub IsAnswerTo : Option Asked → Seen Contents → Seen (List ℕ) → Result (Unit {0}) Stop → Type 0
IsAnswerTo None files out given = (given ≡ Err Words) × (out.new ≡ out.old)
IsAnswerTo (Some asked) files out given = ForSome files.old (λ file. IsDone asked file given out.old out.new)

-- what the top call answers to these words, over files, a sink for the text and one for the note
pub record IsTraced (words : List (List ℕ)) (files : Seen Contents) (out notes : Seen (List ℕ)) (status : Status) : Type 0 where
  pub given : Result (Unit {0}) Stop
  pub answer : IsAnswerTo (form_of words) files out given
  pub status_is : status ≡ status_by given
  pub note : IsNoted given notes
  pub read_fault : StopsWith status_of ReadFault given → Rose files.before files.after
  pub write_fault : StopsWith status_of WriteFault given → Rose out.before out.after
