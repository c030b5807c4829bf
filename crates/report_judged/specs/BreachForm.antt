-- The words of a call.
use Rattle.std.specs.Prelude.{ℕ, Bool, true, false, List, [], ◌∷◌, codes, Option, None, Some, if◌then◌else◌}
use Rattle.std.specs.Option.{option_map}
use Rattle.std.specs.Str.{bytes_eq}
use Rattle.sig_types.specs.Text.{number_of, within}
use Rattle.site_load.specs.Loading.{SiteFiles}
use Rattle.site_load.specs.Sites.{site_in}
use Rattle.report_judged.specs.declared.breach_form.BreachForm.{BreachForm}
use Rattle.report_judged.specs.declared.breach_form.Options.{Options}

-- what the words ask for: the breaches of a log at a site, with a tolerance for ambers and red-ambers, as a table or in words
pub record Asked : Type 0 where
  pub log : List ℕ
  pub site : SiteFiles
  pub tolerance : ℕ
  pub csv : Bool

-- what is asked for, as the program holds it
abbrev pub asked_in : BreachForm → Asked
asked_in form = record { log = form.log.now; site = site_in form.site; tolerance = form.tolerance; csv = form.csv }

-- the option with its number of seconds, 0 to 9
abbrev pub with_tolerance : List ℕ → List ℕ → Bool → Option Options
with_tolerance option n csv =
    if bytes_eq option (codes "--amber-tolerance") then option_map (λ t. record { tolerance = t; csv = csv }) (within 0 9 (number_of n)) else None

-- the one option without a number
abbrev pub csv_alone : List ℕ → Option Options
csv_alone word = if bytes_eq word (codes "--csv") then Some (record { tolerance = 0; csv = true }) else None

-- both options, in either order
abbrev pub three_words : List ℕ → List ℕ → List ℕ → Option Options
three_words first second third =
    if bytes_eq first (codes "--csv") then with_tolerance second third true
    else if bytes_eq third (codes "--csv") then with_tolerance first second true
    else None

-- the options behind the names of the files, each at most once: without them no tolerance, and words
abbrev pub options_of : List (List ℕ) → Option Options
options_of [] = Some (record { tolerance = 0; csv = false })
options_of (csv ∷ []) = csv_alone csv
options_of (option ∷ n ∷ []) = with_tolerance option n false
options_of (first ∷ second ∷ third ∷ []) = three_words first second third
options_of (first ∷ second ∷ third ∷ fourth ∷ more) = None

-- a log and a site, with options
abbrev pub asked_with : List ℕ → SiteFiles → Options → Asked
asked_with log site options = record { log = log; site = site; tolerance = options.tolerance; csv = options.csv }

-- breaches LOG PUA TIMES INTERGREENS and options
abbrev pub form_by : List ℕ → List ℕ → SiteFiles → Option Options → Option Asked
form_by word log site options = if bytes_eq word (codes "breaches") then option_map (asked_with log site) options else None

-- what the words after the program's name ask for
abbrev pub form_of : List (List ℕ) → Option Asked
form_of (word ∷ log ∷ plan ∷ times ∷ intergreens ∷ rest) =
    form_by word log (record { plan = plan; times = times; intergreens = intergreens }) (options_of rest)
form_of (a ∷ b ∷ c ∷ d ∷ []) = None
form_of (a ∷ b ∷ c ∷ []) = None
form_of (a ∷ b ∷ []) = None
form_of (a ∷ []) = None
form_of [] = None
