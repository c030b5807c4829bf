-- What the words of a call ask for.
use Rattle.std.specs.Prelude.{ℕ, ◌≤◌, Bool, true, false, ◌&&◌, ◌||◌, is_some, List, [], ◌∷◌, codes, map, string_bytes, Option, None, Some, if◌then◌else◌}
use Rattle.std.specs.Option.{option_and_then, option_map}
use Rattle.std.specs.Str.{bytes_eq}
use Rattle.sig_types.specs.Text.{number_of, within}
use Rattle.report_seen.specs.Serves.{serve_in, serve_words}
use Rattle.report_seen.specs.declared.sums_form.Seconds.{Seconds}
use Rattle.report_seen.specs.declared.sums_form.SumsForm.{SumsForm}

-- a log, the seconds of it that count, how many of them a part has, where there are parts, the words that name detectors and the group
-- that they serve, and whether a table is written
pub record Asked : Type 0 where
  pub log : List ℕ
  pub from : ℕ
  pub to : ℕ
  pub each : Option ℕ
  pub serves : List (List ℕ)
  pub csv : Bool

-- all seconds that a log can have
abbrev pub all_seconds : Seconds
all_seconds = record { from = 1; to = 604801 }

-- FROM TO: a second, and one that is not lower
abbrev pub seconds_of : List ℕ → List ℕ → Option Seconds
seconds_of from to =
    option_and_then (λ a. option_map (λ b. record { from = a; to = b }) (within a 604801 (number_of to))) (within 1 604801 (number_of from))

-- --serves DETECTORS:GROUP
unfoldable pub is_serve : List ℕ → List ℕ → Bool
is_serve option word = bytes_eq option (codes "--serves") && is_some (serve_in word)

-- whether --csv stands behind what is asked for by --serves, where nothing else does
abbrev pub csv_of : List (List ℕ) → Option Bool
csv_of [] = Some false
csv_of (word ∷ []) = if bytes_eq word (codes "--csv") then Some true else None
csv_of (option ∷ word ∷ rest) = if is_serve option word then csv_of rest else None

-- a log, some seconds in parts or as a whole, detectors that serve a group, and a table where --csv follows
abbrev pub with_csv : List ℕ → Seconds → Option ℕ → List (List ℕ) → Option Asked
with_csv log s each words =
    option_map (λ csv. record { log = log; from = s.from; to = s.to; each = each; serves = serve_words words; csv = csv }) (csv_of words)

-- parts of so many seconds, where that isn't wrong
abbrev pub with_parts : List ℕ → Seconds → Option ℕ → List (List ℕ) → Option Asked
with_parts log s None words = None
with_parts log s (Some each) words = with_csv log s (Some each) words

-- --each SECONDS, 60 or more
abbrev pub with_each : List ℕ → Seconds → List (List ℕ) → Option Asked
with_each log s [] = with_csv log s None []
with_each log s (word ∷ []) = with_csv log s None (word ∷ [])
with_each log s (word ∷ n ∷ rest) =
    if bytes_eq word (codes "--each") then with_parts log s (within 60 604801 (number_of n)) rest else with_csv log s None (word ∷ n ∷ rest)

-- the same, where the seconds may not be wrong
abbrev pub with_each_of : List ℕ → Option Seconds → List (List ℕ) → Option Asked
with_each_of log None words = None
with_each_of log (Some s) words = with_each log s words

-- an option, and no second
abbrev pub is_option : List ℕ → Bool
is_option word = bytes_eq word (codes "--each") || bytes_eq word (codes "--serves")

-- all seconds of a log, or those from FROM to TO
abbrev pub with_seconds : List ℕ → List (List ℕ) → Option Asked
with_seconds log [] = with_each log all_seconds []
with_seconds log (word ∷ []) = with_each log all_seconds (word ∷ [])
with_seconds log (from ∷ to ∷ rest) =
    if is_option from then with_each log all_seconds (from ∷ to ∷ rest) else with_each_of log (seconds_of from to) rest

-- sums LOG, the seconds, the parts, detectors that serve a group, and --csv
abbrev pub form_of : List (List ℕ) → Option Asked
form_of (word ∷ log ∷ rest) = if bytes_eq word (codes "sums") then with_seconds log rest else None
form_of _ = None

-- what is asked for, as the program holds it
abbrev pub asked_in : SumsForm → Asked
asked_in form = record {
  log = form.log.now;
  from = form.from;
  to = form.to;
  each = form.each;
  serves = serve_words (map string_bytes form.serves.now);
  csv = form.csv;
}

-- the same where the words are a form
abbrev pub asked_by : Option SumsForm → Option Asked
asked_by None = None
asked_by (Some form) = Some (asked_in form)

-- parts have a second at least
abbrev pub HasSeconds : Option ℕ → Type 0
HasSeconds None = Unit {0}
HasSeconds (Some each) = 1 ≤ each
