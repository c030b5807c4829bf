-- The forms of `log_report`.
use Rattle.std.specs.Prelude.{ℕ, List, ◌++◌, codes, Option, None, Some, if◌then◌else◌}
use Rattle.std.specs.Str.{bytes_eq}
use Rattle.form_help.specs.declared.report.ReportForm.{ReportForm}
use Rattle.form_help.specs.declared.report.ReportForm.TheVariants as form

-- the form with this first word
abbrev pub report_form : List ℕ → Option ReportForm
report_form word =
    if bytes_eq word (codes "diagram") then Some form.Diagram
    else (if bytes_eq word (codes "text") then Some form.Text
    else (if bytes_eq word (codes "sums") then Some form.Sums
    else (if bytes_eq word (codes "compare") then Some form.Compare
    else (if bytes_eq word (codes "breaches") then Some form.Breaches
    else (if bytes_eq word (codes "protocol") then Some form.Protocol
    else (if bytes_eq word (codes "refusals") then Some form.Refusals else None))))))

-- how a form is written
abbrev pub report_line : ReportForm → List ℕ
report_line form.Diagram = codes "log_report diagram LOG FROM TO [--site PUA TIMES INTERGREENS] [--strip N] [--title TEXT] [--begin HH:MM:SS]"
report_line form.Text = codes "log_report text LOG FROM TO"
report_line form.Sums = codes "log_report sums LOG [FROM TO] ([--each SECONDS] [--serves DETECTORS:GROUP] | --lost) [--csv]"
report_line form.Compare = codes "log_report compare LOG LOG"
report_line form.Breaches = codes "log_report breaches LOG PUA TIMES INTERGREENS [--amber-tolerance N] [--csv]"
report_line form.Protocol = codes "log_report protocol LOG PUA TIMES INTERGREENS [--csv]"
report_line form.Refusals = codes "log_report refusals LOG PUA TIMES INTERGREENS [FROM TO] [--csv]"

-- what the words of a form say, a line each
abbrev pub report_more : ReportForm → List ℕ
report_more form.Diagram =
    codes "  an SVG signal timing diagram of these seconds of the log, at most 3600\n"
    ++ codes "  --site PUA TIMES INTERGREENS  names of stages and minimum greens of the junction's plan and tables\n"
    ++ codes "  --strip N         in strips of so many seconds, from 30 to 600; else 120\n"
    ++ codes "  --title TEXT      a title, of 1 to 80 bytes without control characters\n"
    ++ codes "  --begin HH:MM:SS  second 1 is at this time of the day, up to 23:59:59\n"
    ++ codes "  the options stand in this order\n"
report_more form.Text =
    codes "  these seconds of the log as characters, at most 3600\n"
report_more form.Sums =
    codes "  what groups, stages, refusals, faults and detectors of the log, or of these seconds, add up to\n"
    ++ codes "  --each SECONDS            for each part of so many seconds, from 60 to 604801\n"
    ++ codes "  --serves DETECTORS:GROUP  what these detectors tell of the waits for the group\n  --lost                    each start that was asked for, refused, and then asked for no more, in their place\n"
    ++ codes "  --csv                     as a table\n"
report_more form.Compare =
    codes "  where two logs differ first, and what both add up to\n"
report_more form.Breaches =
    codes "  each breach of the rules in the log of any controller, in words\n"
    ++ codes "  --amber-tolerance N  ambers may be so many seconds longer or shorter\n"
    ++ codes "  --csv                as a table\n"
    ++ codes "  PUA, TIMES, INTERGREENS: the plan and the tables of the junction, as for `junction run`\n"
    ++ codes "  RECORD TIMES INTERGREENS in their place: a record in tenths of a second, by tables with one decimal\n"
report_more form.Protocol =
    codes "  what came in the log of any controller, beside what the tables say\n"
    ++ codes "  --csv  as a table\n"
    ++ codes "  PUA, TIMES, INTERGREENS: the plan and the tables of the junction, as for `junction run`\n"
    ++ codes "  RECORD TIMES INTERGREENS in their place: a record in tenths of a second, by tables with one decimal\n"
report_more form.Refusals =
    codes "  why each command and each turn of the log, or of these seconds, was refused, in numbers\n"
    ++ codes "  --csv  as a table\n"
    ++ codes "  PUA, TIMES, INTERGREENS: the plan and the tables of the junction, as for `junction run`\n"
