-- How a call that stopped ends, and its note.
use Rattle.std.specs.Prelude.{ℕ, List, ◌++◌, codes, Option, None, Some}
use Rattle.std.specs.Fmt.{decimal}
use Rattle.log_read.specs.Whys.{why_name}
use Rattle.log_read.specs.declared.refusal.LogStop.{LogStop}
use Rattle.log_read.specs.declared.refusal.LogStop.TheVariants as log
use Rattle.report_seen.specs.declared.named.FormName.{FormName}
use Rattle.report_seen.specs.declared.stop.Status.{Status}
use Rattle.report_seen.specs.declared.stop.Status.TheVariants as status
use Rattle.report_seen.specs.declared.stop.Stop.{Stop}
use Rattle.report_seen.specs.declared.stop.Stop.TheVariants.{Memory, Words, TooManySeconds, ReadFault, WriteFault, Line, LogEnds}
use Rattle.report_seen.specs.Named.{form_begun, form_limits, form_words, log_named}

-- how a call ends that stopped so
abbrev pub status_of : Stop → Status
status_of Memory = status.Memory
status_of Words = status.Words
status_of TooManySeconds = status.Words
status_of ReadFault = status.ReadFault
status_of WriteFault = status.WriteFault
status_of (Line line why) = status.Refused
status_of (LogEnds last) = status.Refused

-- the exit status
abbrev pub exit_number : Status → ℕ
exit_number status.Done = 0
exit_number status.Memory = 1
exit_number status.Words = 2
exit_number status.ReadFault = 3
exit_number status.WriteFault = 4
exit_number status.Refused = 5

-- where reading a log stops, as a stop of the call
abbrev pub stop_of : LogStop → Stop
stop_of log.Memory = Memory
stop_of log.Fault = ReadFault
stop_of (log.At line why) = Line line why

-- what would be words of a form: those of the form that is begun, with what they may be, and else what the usage tells
abbrev pub right_words : Option FormName → List ℕ
right_words None = codes "see log_report --help"
right_words (Some form) = form_words form ++ form_limits form ++ codes ", or --help"

-- what the note says of a stop of a call with these words: of a log that wasn't read to its end, its name
abbrev pub stop_words : List (List ℕ) → Stop → List ℕ
stop_words words Memory = codes "Memory"
stop_words words Words = codes "Words: " ++ right_words (form_begun words)
stop_words words TooManySeconds = codes "TooManySeconds 3600"
stop_words words ReadFault = log_named words ++ codes ": ReadFault"
stop_words words WriteFault = codes "WriteFault"
stop_words words (Line line why) = log_named words ++ codes ":" ++ decimal line ++ codes ": " ++ why_name why
stop_words words (LogEnds last) = log_named words ++ codes ": LogEnds " ++ decimal last

-- a note, with the name of the program before it and its line feed
abbrev pub note_of : List ℕ → List ℕ
note_of text = codes "log_report: " ++ text ++ codes "\n"

-- the note of a stop of a call with these words
unfoldable pub stop_note : List (List ℕ) → Stop → List ℕ
stop_note words stop = note_of (stop_words words stop)
