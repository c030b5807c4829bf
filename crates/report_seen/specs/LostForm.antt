-- What the words of a call ask for that tells lost starts.
use Rattle.std.specs.Prelude.{ℕ, Bool, true, false, ◌&&◌, ◌||◌, List, [], ◌∷◌, codes, Option, None, Some, if◌then◌else◌}
use Rattle.std.specs.Option.{option_and_then, option_map}
use Rattle.std.specs.Str.{bytes_eq}
use Rattle.sig_types.specs.Text.{number_of, within}
use Rattle.report_seen.specs.declared.lost_words.LostForm.{LostForm}
use Rattle.report_seen.specs.declared.sums_form.Seconds.{Seconds}

-- a log, the seconds of it that count, and whether a table is written
pub record Asked : Type 0 where
  pub log : List ℕ
  pub from : ℕ
  pub to : ℕ
  pub csv : Bool

-- all seconds that a log can have: its first one has at most nine digits, and 604,800 follow
abbrev pub all_seconds : Seconds
all_seconds = record { from = 1; to = 1000604799 }

-- FROM TO: a second, and one that is not lower
abbrev pub seconds_of : List ℕ → List ℕ → Option Seconds
seconds_of from to =
    option_and_then (λ a. option_map (λ b. record { from = a; to = b }) (within a 1000604799 (number_of to)))
    (within 1 1000604799 (number_of from))

-- --lost, and --csv before or behind it
abbrev pub is_lost_table : List ℕ → List ℕ → Bool
is_lost_table a b =
    (bytes_eq a (codes "--lost") && bytes_eq b (codes "--csv")) || (bytes_eq a (codes "--csv") && bytes_eq b (codes "--lost"))

-- --lost, with --csv where a table is asked for
abbrev pub table_of : List (List ℕ) → Option Bool
table_of (word ∷ []) = if bytes_eq word (codes "--lost") then Some false else None
table_of (a ∷ b ∷ []) = if is_lost_table a b then Some true else None
table_of _ = None

-- these seconds of a log, where a table or lines are asked for
abbrev pub with_table : List ℕ → Option Seconds → Option Bool → Option Asked
with_table log None csv = None
with_table log (Some s) None = None
with_table log (Some s) (Some csv) = Some (record { log = log; from = s.from; to = s.to; csv = csv })

-- all seconds of a log, or those from FROM to TO
abbrev pub with_seconds : List ℕ → List (List ℕ) → Option Asked
with_seconds log (from ∷ to ∷ word ∷ rest) = with_table log (seconds_of from to) (table_of (word ∷ rest))
with_seconds log words = with_table log (Some all_seconds) (table_of words)

-- sums LOG, the seconds, --lost and --csv
abbrev pub form_of : List (List ℕ) → Option Asked
form_of (word ∷ log ∷ rest) = if bytes_eq word (codes "sums") then with_seconds log rest else None
form_of _ = None

-- what is asked for, as the program holds it
abbrev pub asked_in : LostForm → Asked
asked_in form = record { log = form.log.now; from = form.from; to = form.to; csv = form.csv }

-- the same where the words are a form
abbrev pub asked_by : Option LostForm → Option Asked
asked_by None = None
asked_by (Some form) = Some (asked_in form)
