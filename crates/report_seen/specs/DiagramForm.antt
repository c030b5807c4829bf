-- What the words of a call ask for.
use Rattle.std.specs.Prelude.{ℕ, ◌+◌, ◌<◌, ◌≤◌, List, [], ◌∷◌, codes, Option, None, Some, Result, Ok, Err, if◌then◌else◌, nat_lt}
use Rattle.std.specs.Str.{bytes_eq}
use Rattle.sig_types.specs.Text.{number_of, within}
use Rattle.log_svg.specs.Words.{Looked}
use Rattle.report_seen.specs.declared.diagram_form.Window.{Window}
use Rattle.report_seen.specs.declared.stop.Stop.{Stop}
use Rattle.report_seen.specs.declared.stop.Stop.TheVariants.{Words, TooManySeconds}
use Rattle.report_seen.specs.Look.{look_of}

-- 1 to 3,600 seconds of a log, of which the longest has 604,801
pub record IsWindow (window : Window) : Type 0 where
  pub least : 1 ≤ window.from
  pub order : window.from ≤ window.to
  pub hour : window.to < window.from + 3600
  pub last : window.to ≤ 604801

-- what is asked for: the usage, the version, a picture of some seconds of a log that is to look so, or the same as characters
pub data Asked : Type 0 where
  Help : Asked
  Version : Asked
  Diagram : (log : List ℕ) (window : Window) (look : Looked) → Asked
  Text : (log : List ℕ) (window : Window) → Asked

-- at most 3,600 seconds
abbrev pub window_by : ℕ → ℕ → Result Window Stop
window_by from to = if nat_lt to (from + 3600) then Ok (record { from = from; to = to }) else Err TooManySeconds

-- the seconds up to the last one, where that is a number
abbrev pub window_from : ℕ → Option ℕ → Result Window Stop
window_from from None = Err Words
window_from from (Some to) = window_by from to

-- the seconds from a number from 1 on to one that is not lower
abbrev pub window_to : List ℕ → Option ℕ → Result Window Stop
window_to to None = Err Words
window_to to (Some from) = window_from from (within from 604801 (number_of to))

-- the seconds that two words ask for
abbrev pub window_of : List ℕ → List ℕ → Result Window Stop
window_of from to = window_to to (within 1 604801 (number_of from))

-- --help and --version
abbrev pub lone_form : List ℕ → Result Asked Stop
lone_form word =
    if bytes_eq word (codes "--help") then Ok Help else (if bytes_eq word (codes "--version") then Ok Version else Err Words)

-- a diagram of these seconds that is to look so
abbrev pub look_form : List ℕ → Window → Option Looked → Result Asked Stop
look_form log window None = Err Words
look_form log window (Some look) = Ok (Diagram log window look)

-- the same, where the seconds may be wrong
abbrev pub diagram_form : List ℕ → Result Window Stop → Option Looked → Result Asked Stop
diagram_form log (Err stop) look = Err stop
diagram_form log (Ok window) look = look_form log window look

-- characters of these seconds, where nothing follows
abbrev pub letters_form : List ℕ → Window → List (List ℕ) → Result Asked Stop
letters_form log window [] = Ok (Text log window)
letters_form log window (word ∷ rest) = Err Words

-- the same, where the seconds may be wrong
abbrev pub text_form : List ℕ → Result Window Stop → List (List ℕ) → Result Asked Stop
text_form log (Err stop) rest = Err stop
text_form log (Ok window) rest = letters_form log window rest

-- diagram LOG FROM TO and how it is to look, and text LOG FROM TO
abbrev pub window_form : List ℕ → List ℕ → Result Window Stop → List (List ℕ) → Result Asked Stop
window_form word log window rest =
    if bytes_eq word (codes "diagram") then diagram_form log window (look_of rest)
    else (if bytes_eq word (codes "text") then text_form log window rest else Err Words)

-- --help, --version, diagram LOG FROM TO [--strip N] [--title TEXT] [--begin HH:MM:SS], text LOG FROM TO
abbrev pub form_of : List (List ℕ) → Result Asked Stop
form_of [] = Err Words
form_of (word ∷ []) = lone_form word
form_of (word ∷ log ∷ []) = Err Words
form_of (word ∷ log ∷ from ∷ []) = Err Words
form_of (word ∷ log ∷ from ∷ to ∷ rest) = window_form word log (window_of from to) rest
