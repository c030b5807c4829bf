-- The forms that read one log, by their first word, and the log that the words of a call name.
use Rattle.std.specs.Prelude.{ℕ, List, [], ◌∷◌, codes, Option, None, Some, if◌then◌else◌}
use Rattle.std.specs.Str.{bytes_eq}
use Rattle.report_seen.specs.declared.named.FormName.{FormName}
use Rattle.report_seen.specs.declared.named.FormName.TheVariants.{Diagram, Text, Sums}

-- how a form is written
abbrev pub form_words : FormName → List ℕ
form_words Diagram = codes "log_report diagram LOG FROM TO [--site PUA TIMES INTERGREENS] [--strip N] [--title TEXT] [--begin HH:MM:SS]"
form_words Text = codes "log_report text LOG FROM TO"
form_words Sums = codes "log_report sums LOG [FROM TO] ([--each SECONDS] [--serves DETECTORS:GROUP] | --lost) [--csv]"

-- what its words may be, as the note on words that are no form tells it
abbrev pub form_limits : FormName → List ℕ
form_limits Diagram = codes ", with N from 30 to 600, TEXT of 1 to 80 bytes without control characters, and HH:MM:SS up to 23:59:59"
form_limits Text = []
form_limits Sums = []

-- the form with this first word
abbrev pub form_called : List ℕ → Option FormName
form_called word =
    if bytes_eq word (codes "diagram") then Some Diagram
    else (if bytes_eq word (codes "text") then Some Text else (if bytes_eq word (codes "sums") then Some Sums else None))

-- the form that the words begin
abbrev pub form_begun : List (List ℕ) → Option FormName
form_begun [] = None
form_begun (word ∷ words) = form_called word

-- the log that the words name: the second of them
abbrev pub log_named : List (List ℕ) → List ℕ
log_named [] = []
log_named (word ∷ []) = []
log_named (word ∷ log ∷ words) = log
