-- What the words of a call ask for.
use Rattle.std.specs.Prelude.{ℕ, Bool, true, false, List, [], ◌∷◌, codes, Option, None, Some, if◌then◌else◌}
use Rattle.std.specs.Option.{option_and_then, option_map}
use Rattle.std.specs.Str.{bytes_eq}
use Rattle.sig_types.specs.Text.{number_of, within}
use Rattle.site_load.specs.Loading.{SiteFiles}
use Rattle.site_load.specs.Sites.{site_in}
use Rattle.report_judged.specs.declared.refusal_form.Options.{Options}
use Rattle.report_judged.specs.declared.refusal_form.RefusalForm.{RefusalForm}

-- a log, the files of its site, the seconds that are told, and whether a table is written
pub record Asked : Type 0 where
  pub log : List ℕ
  pub site : SiteFiles
  pub from : ℕ
  pub to : ℕ
  pub csv : Bool

-- all seconds that a log can have: its first one has at most nine digits, and 604,800 follow
abbrev pub all_seconds : Bool → Options
all_seconds csv = record { from = 1; to = 1000604799; csv = csv }

-- FROM TO: a second, and one that is not lower
abbrev pub seconds_of : List ℕ → List ℕ → Bool → Option Options
seconds_of from to csv =
    option_and_then (λ a. option_map (λ b. record { from = a; to = b; csv = csv }) (within a 1000604799 (number_of to)))
    (within 1 1000604799 (number_of from))

-- --csv
abbrev pub lone_option : List ℕ → Option Options
lone_option word = if bytes_eq word (codes "--csv") then Some (all_seconds true) else None

-- FROM TO --csv
abbrev pub three_options : List ℕ → List ℕ → List ℕ → Option Options
three_options from to word = if bytes_eq word (codes "--csv") then seconds_of from to true else None

-- nothing, FROM TO, and --csv
abbrev pub options_of : List (List ℕ) → Option Options
options_of [] = Some (all_seconds false)
options_of (word ∷ []) = lone_option word
options_of (from ∷ to ∷ []) = seconds_of from to false
options_of (from ∷ to ∷ word ∷ []) = three_options from to word
options_of (from ∷ to ∷ word ∷ other ∷ rest) = None

-- what is asked for, where the last words are no form either
abbrev pub with_options : List ℕ → SiteFiles → Option Options → Option Asked
with_options log site None = None
with_options log site (Some o) = Some (record { log = log; site = site; from = o.from; to = o.to; csv = o.csv })

-- refusals LOG PUA TIMES INTERGREENS, and the options
abbrev pub form_of : List (List ℕ) → Option Asked
form_of (word ∷ log ∷ plan ∷ times ∷ intergreens ∷ rest) =
    if bytes_eq word (codes "refusals")
    then with_options log (record { plan = plan; times = times; intergreens = intergreens }) (options_of rest)
    else None
form_of _ = None

-- what is asked for, as the program holds it
abbrev pub asked_in : RefusalForm → Asked
asked_in form = record { log = form.log.now; site = site_in form.site; from = form.from; to = form.to; csv = form.csv }

-- the same where the words are a form
abbrev pub asked_by : Option RefusalForm → Option Asked
asked_by None = None
asked_by (Some form) = Some (asked_in form)
