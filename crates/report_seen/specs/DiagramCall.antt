-- What a call of `log_report` answers.
use Rattle.std.specs.Prelude.{◌≡◌, ◌++◌, ℕ, List, codes, Option, Result, Ok, Err}
use Rattle.std.specs.Option.{ForSome}
use Rattle.std.specs.Io.KnownBytes.{append_known}
use Rattle.sig_io.specs.Draft.{IsCut}
use Rattle.sig_io.specs.Outside.{Contents, Rose}
use Rattle.sig_io.specs.Seen.{Seen}
use Rattle.sig_io.specs.Version.{version_line}
use Rattle.log_svg.specs.declared.diagram.Diagram.{Diagram as Drawn}
use Rattle.log_svg.specs.Diagram.{diagram_text}
use Rattle.log_svg.specs.ShownIn.{shown_in}
use Rattle.report_seen.specs.declared.stop.Status.{Status}
use Rattle.report_seen.specs.declared.stop.Status.TheVariants.{Done}
use Rattle.report_seen.specs.declared.stop.Stop.{Stop}
use Rattle.report_seen.specs.declared.stop.Stop.TheVariants.{Memory, Words, TooManySeconds, ReadFault, WriteFault, Line, LogEnds}
use Rattle.report_seen.specs.Answers.{IsDiagramOf, IsUndrawn}
use Rattle.report_seen.specs.DiagramForm.{Asked, Diagram, Help, Text, Version, form_of}
use Rattle.report_seen.specs.Letters.{letters_text}
use Rattle.report_seen.specs.declared.named.FormName.TheVariants as name
use Rattle.report_seen.specs.Named.{form_words}
use Rattle.report_seen.specs.Notes.{status_of, stop_note}

-- how it is called
unfoldable pub usage_text : List ℕ
usage_text =
    form_words name.Diagram
    ++ codes "\n                                 an SVG signal timing diagram of these seconds, at most 3600, in strips of N (120); second 1 is at HH:MM:SS\n"
    ++ form_words name.Text
    ++ codes "      the same as characters\n"
    ++ form_words name.Sums
    ++ codes "\n                                 what groups, stages, refusals, faults and detectors add up to, in parts of so many seconds\n"
    ++ codes "log_report compare LOG LOG       where two logs differ first, and what both add up to\n"
    ++ codes "log_report breaches LOG PUA TIMES INTERGREENS [--amber-tolerance N] [--csv]\n                                 each breach of the rules by any controller, in words or as a table\n"
    ++ codes "log_report protocol LOG PUA TIMES INTERGREENS [--csv]\n                                 what came in the log of any controller, beside what the tables say\n"
    ++ codes "log_report refusals LOG PUA TIMES INTERGREENS [FROM TO] [--csv]\n                                 why each command and each turn was refused, in numbers\n"
    ++ codes "log_report --help | --version    this text; the version\n"

-- which version it is
abbrev pub version_text : List ℕ
version_text = version_line (codes "log_report")

-- the text that is asked for, of files with these contents
abbrev pub IsTextOf : Asked → Contents → List ℕ → Type 0
IsTextOf Help file text = text ≡ usage_text
IsTextOf Version file text = text ≡ version_text
IsTextOf (Diagram log window look) file text = (d : Drawn) × IsDiagramOf (file log) window d × (text ≡ diagram_text (shown_in d) look)
IsTextOf (Text log window) file text = (d : Drawn) × IsDiagramOf (file log) window d × (text ≡ letters_text (shown_in d))

-- why there is no such text
abbrev pub HasNoText : Asked → Contents → Stop → Type 0
HasNoText Help file stop = ⊥
HasNoText Version file stop = ⊥
HasNoText (Diagram log window look) file stop = IsUndrawn (file log) window.to stop
HasNoText (Text log window) file stop = IsUndrawn (file log) window.to stop

-- a sink has taken the text, or only its first bytes, and failed
abbrev pub IsWritten : List ℕ → Result (Unit {0}) Stop → Option (List ℕ) → Option (List ℕ) → Type 0
IsWritten text (Ok x) old new = new ≡ append_known old text
IsWritten text (Err stop) old new = (stop ≡ WriteFault) × ((n : ℕ) × IsCut old new n text)

-- where a call stops: nothing is written, but where the sink fails while the text is written
abbrev pub IsStopped : Asked → Contents → Stop → Option (List ℕ) → Option (List ℕ) → Type 0
IsStopped asked file Memory old new = (new ≡ old) × HasNoText asked file Memory
IsStopped asked file Words old new = ⊥
IsStopped asked file TooManySeconds old new = ⊥
IsStopped asked file ReadFault old new = (new ≡ old) × HasNoText asked file ReadFault
IsStopped asked file WriteFault old new = (text : List ℕ) × IsTextOf asked file text × ((n : ℕ) × IsCut old new n text)
IsStopped asked file (Line line why) old new = (new ≡ old) × HasNoText asked file (Line line why)
IsStopped asked file (LogEnds last) old new = (new ≡ old) × HasNoText asked file (LogEnds last)

-- what a call gives that asks for this, of files with these contents
abbrev pub IsAnswered : Asked → Contents → Result (Unit {0}) Stop → Option (List ℕ) → Option (List ℕ) → Type 0
IsAnswered asked file (Ok x) old new = (text : List ℕ) × IsTextOf asked file text × (new ≡ append_known old text)
IsAnswered asked file (Err stop) old new = IsStopped asked file stop old new

-- how a call ends that gives this
abbrev pub status_by : Result (Unit {0}) Stop → Status
status_by (Ok x) = Done
status_by (Err stop) = status_of stop

-- the note of a call with these words that gives this: none where all was done
abbrev pub IsNoted : List (List ℕ) → Result (Unit {0}) Stop → Seen (List ℕ) → Type 0
IsNoted words (Ok x) notes = notes.new ≡ notes.old
IsNoted words (Err stop) notes = (Rose notes.before notes.after → ⊥) → notes.new ≡ append_known notes.old (stop_note words stop)

-- words that are no form are not answered; what a form asks for is answered where the files tell what they hold
abbrev pub IsAnswerTo : Result Asked Stop → Seen Contents → Seen (List ℕ) → Result (Unit {0}) Stop → Type 0
IsAnswerTo (Err stop) files out given = (given ≡ Err stop) × (out.new ≡ out.old)
IsAnswerTo (Ok asked) files out given = ForSome files.old (λ file. IsAnswered asked file given out.old out.new)

-- what the top call answers to these words, over files, a sink for the text and one for the note
pub record IsReported (words : List (List ℕ)) (files : Seen Contents) (out notes : Seen (List ℕ)) (status : Status) : Type 0 where
  pub given : Result (Unit {0}) Stop
  pub answer : IsAnswerTo (form_of words) files out given
  pub status_is : status ≡ status_by given
  pub note : IsNoted words given notes
  pub read_fault : given ≡ Err ReadFault → Rose files.before files.after
  pub write_fault : given ≡ Err WriteFault → Rose out.before out.after
