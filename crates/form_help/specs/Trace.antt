-- The forms of `junction_trace`.
use Rattle.std.specs.Prelude.{ℕ, List, ◌++◌, codes, Option, None, Some, if◌then◌else◌}
use Rattle.std.specs.Str.{bytes_eq}
use Rattle.form_help.specs.declared.trace.TraceForm.{TraceForm}
use Rattle.form_help.specs.declared.trace.TraceForm.TheVariants as form

-- the form with this first word
abbrev pub trace_form : List ℕ → Option TraceForm
trace_form word =
    if bytes_eq word (codes "values") then Some form.Values
    else (if bytes_eq word (codes "how-ended") then Some form.HowEnded
    else (if bytes_eq word (codes "lines") then Some form.Lines
    else (if bytes_eq word (codes "second") then Some form.Second
    else (if bytes_eq word (codes "trace") then Some form.Trace else None))))

-- how a form is written
abbrev pub trace_line : TraceForm → List ℕ
trace_line form.Values = codes "junction_trace values PROGRAM PUA TIMES INTERGREENS DETECTORS [NAME ..] [--from N] [--to N]"
trace_line form.HowEnded = codes "junction_trace how-ended PROGRAM PUA TIMES INTERGREENS DETECTORS [--csv]"
trace_line form.Lines = codes "junction_trace lines PROGRAM PUA TIMES INTERGREENS DETECTORS [--csv | --lcov] [--add DETECTORS ..]"
trace_line form.Second = codes "junction_trace second PROGRAM PUA TIMES INTERGREENS DETECTORS N"
trace_line form.Trace = codes "junction_trace trace PROGRAM PUA TIMES INTERGREENS DETECTORS"

-- what the words of a form say, a line each
abbrev pub trace_more : TraceForm → List ℕ
trace_more form.Values =
    codes "  a table of the program's variables, timers and cells after each second, as CSV\n"
    ++ codes "  NAME ..   the variables, timers, cells and arrays that are told; all where none is named\n"
    ++ codes "  --from N  the first second that is told, from 1 to 604800; else the first of all\n"
    ++ codes "  --to N    the last one; else the last of all. Both stand at the end, in this order\n"
    ++ codes "  PROGRAM, PUA, TIMES, INTERGREENS, DETECTORS: the files of `junction run`\n"
trace_more form.HowEnded =
    codes "  for each end of a stage the line of the command that ended it, in words\n"
    ++ codes "  --csv     as CSV\n"
    ++ codes "  PROGRAM, PUA, TIMES, INTERGREENS, DETECTORS: the files of `junction run`\n"
trace_more form.Lines =
    codes "  how often its lines ran and its tests were answered, beside its text\n"
    ++ codes "  --csv     as CSV\n"
    ++ codes "  --lcov    as a tracefile for lcov; one of both, before any --add\n"
    ++ codes "  --add DETECTORS  adds the counts of one more run, with these detectors; any number of times\n"
    ++ codes "  PROGRAM, PUA, TIMES, INTERGREENS, DETECTORS: the files of `junction run`\n"
trace_more form.Second =
    codes "  the listing of one second: what ran, was read, tested, assigned and commanded, in order\n"
    ++ codes "  N         the second, from 1 to 604800\n"
    ++ codes "  PROGRAM, PUA, TIMES, INTERGREENS, DETECTORS: the files of `junction run`\n"
trace_more form.Trace =
    codes "  what its TRACE statements print, a line for each call\n"
    ++ codes "  PROGRAM, PUA, TIMES, INTERGREENS, DETECTORS: the files of `junction run`\n"
