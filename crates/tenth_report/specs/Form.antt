-- The words of a call.
use Rattle.std.specs.Prelude.{ℕ, ◌≤◌, Bool, true, false, ◌&&◌, ◌||◌, List, [], ◌∷◌, codes, Option, None, Some, is_none, if◌then◌else◌}
use Rattle.std.specs.Option.{ForSome, option_map}
use Rattle.std.specs.Str.{bytes_eq}
use Rattle.sig_types.specs.Text.{within}
use Rattle.sig_tables.specs.Amounts.{tenths_of}
use Rattle.tenth_report.specs.declared.form.Options.{Options}
use Rattle.tenth_report.specs.declared.form.RecordForm.{RecordForm}
use Rattle.tenth_report.specs.declared.form.Task.{Task}
use Rattle.tenth_report.specs.declared.form.Task.TheVariants.{Breaches, Protocol}

-- what the words ask for: of a record by two tables its breaches, with a tolerance in tenths for ambers and red-ambers, or what came
-- in it; as a table or in words
pub record Asked : Type 0 where
  pub record_file : List ℕ
  pub times : List ℕ
  pub intergreens : List ℕ
  pub task : Task
  pub csv : Bool

-- what is asked for, as the program holds it
abbrev pub asked_in : RecordForm → Asked
asked_in form = record {
  record_file = form.file.now;
  times = form.times.now;
  intergreens = form.intergreens.now;
  task = form.task;
  csv = form.csv;
}

-- a word is an option
abbrev pub is_option : List ℕ → Bool
is_option word = bytes_eq word (codes "--csv") || bytes_eq word (codes "--amber-tolerance")

-- the words are a call of a record: behind its third file stands nothing or an option
abbrev pub is_record_call : List (List ℕ) → Bool
is_record_call (a ∷ b ∷ c ∷ d ∷ []) = true
is_record_call (a ∷ b ∷ c ∷ d ∷ option ∷ rest) = is_option option
is_record_call (a ∷ b ∷ c ∷ []) = false
is_record_call (a ∷ b ∷ []) = false
is_record_call (a ∷ []) = false
is_record_call [] = false

-- the option with its number of seconds, 0 to 9 with at most one decimal, in tenths
abbrev pub with_tolerance : List ℕ → List ℕ → Bool → Option Options
with_tolerance option n csv =
    if bytes_eq option (codes "--amber-tolerance") then option_map (λ t. record { tolerance = Some t; csv = csv }) (within 0 90 (tenths_of n))
    else None

-- the one option without a number
abbrev pub csv_alone : List ℕ → Option Options
csv_alone word = if bytes_eq word (codes "--csv") then Some (record { tolerance = None; csv = true }) else None

-- both options, in either order
abbrev pub three_words : List ℕ → List ℕ → List ℕ → Option Options
three_words first second third =
    if bytes_eq first (codes "--csv") then with_tolerance second third true
    else if bytes_eq third (codes "--csv") then with_tolerance first second true
    else None

-- the options behind the names of the files, each at most once: without them no tolerance, and words
abbrev pub options_of : List (List ℕ) → Option Options
options_of [] = Some (record { tolerance = None; csv = false })
options_of (csv ∷ []) = csv_alone csv
options_of (option ∷ n ∷ []) = with_tolerance option n false
options_of (first ∷ second ∷ third ∷ []) = three_words first second third
options_of (first ∷ second ∷ third ∷ fourth ∷ more) = None

-- a tolerance in tenths is at most 9 seconds
abbrev pub IsTask : Task → Type 0
IsTask (Breaches tolerance) = tolerance ≤ 90
IsTask Protocol = Unit {0}

-- so is that of options
abbrev pub AreOptions : Options → Type 0
AreOptions options = ForSome options.tolerance (λ t. t ≤ 90)

-- none where it isn't given
abbrev pub or_none : Option ℕ → ℕ
or_none None = 0
or_none (Some tolerance) = tolerance

-- what a word asks for with this tolerance, which breaches alone have
abbrev pub task_of : List ℕ → Option ℕ → Option Task
task_of word tolerance =
    if bytes_eq word (codes "breaches") then Some (Breaches (or_none tolerance))
    else if bytes_eq word (codes "protocol") && is_none tolerance then Some Protocol
    else None

-- three files with a task
abbrev pub asked_with : List ℕ → List ℕ → List ℕ → Bool → Task → Asked
asked_with file times intergreens csv task = record {
  record_file = file;
  times = times;
  intergreens = intergreens;
  task = task;
  csv = csv;
}

-- breaches RECORD TIMES INTERGREENS or protocol RECORD TIMES INTERGREENS, and options
abbrev pub form_by : List ℕ → List ℕ → List ℕ → List ℕ → Option Options → Option Asked
form_by word file times intergreens None = None
form_by word file times intergreens (Some options) =
    option_map (asked_with file times intergreens options.csv) (task_of word options.tolerance)

-- what the words after the program's name ask for
abbrev pub form_of : List (List ℕ) → Option Asked
form_of (word ∷ file ∷ times ∷ intergreens ∷ rest) = form_by word file times intergreens (options_of rest)
form_of (a ∷ b ∷ c ∷ []) = None
form_of (a ∷ b ∷ []) = None
form_of (a ∷ []) = None
form_of [] = None
