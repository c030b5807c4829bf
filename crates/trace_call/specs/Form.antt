-- The words of a call.
use Rattle.std.specs.Prelude.{ℕ, ◌-◌, nat_le, Bool, false, true, ◌&&◌, List, [], ◌∷◌, codes, length, take, Option, None, Some, if◌then◌else◌, slice_index_or}
use Rattle.std.specs.Option.{option_map}
use Rattle.std.specs.Str.{bytes_eq}
use Rattle.sig_types.specs.Text.{number_of, within}
use Rattle.junction_run.specs.Form.{SiteWords}
use Rattle.trace_call.specs.declared.form.Style.{Style}
use Rattle.trace_call.specs.declared.form.Style.TheVariants.{Table, Csv, Lcov}

-- the names of the files of a run
pub record RunWords : Type 0 where
  pub program : List ℕ
  pub site : SiteWords
  pub detectors : List ℕ

-- the values of these names, all where there are none, in the seconds from the first to the last
pub record ValuesWords : Type 0 where
  pub run : RunWords
  pub names : List (List ℕ)
  pub first : ℕ
  pub last : ℕ

-- the ends of stages, in a table or in words
pub record EndsWords : Type 0 where
  pub run : RunWords
  pub csv : Bool

-- the counts of the lines, in this style, of the run and of those with the added detector files
pub record LinesWords : Type 0 where
  pub run : RunWords
  pub style : Style
  pub added : List (List ℕ)

-- the listing of this second
pub record SecondWords : Type 0 where
  pub run : RunWords
  pub second : ℕ

-- what the words ask for
pub data Asked : Type 0 where
  Help : Asked
  Version : Asked
  Values : (asked : ValuesWords) → Asked
  HowEnded : (asked : EndsWords) → Asked
  Lines : (asked : LinesWords) → Asked
  Second : (asked : SecondWords) → Asked
  Trace : (run : RunWords) → Asked

-- words, and a number
pub record Numbered : Type 0 where
  pub words : List (List ℕ)
  pub number : ℕ

-- whether the last but one of these words is an option
abbrev pub has_option : List (List ℕ) → List ℕ → Bool
has_option words option = nat_le 2 (length words) && bytes_eq (slice_index_or words (length words - 2) []) option

-- the number that the last word is, from 1 to 604,800
abbrev pub last_number : List (List ℕ) → Option ℕ
last_number words = within 1 604800 (number_of (slice_index_or words (length words - 1) []))

-- The words before an option that stands behind them with its number, and the number; where it doesn't stand there
-- all words, and another number. None where the word behind it is no such number.
abbrev pub cut_option : List (List ℕ) → List ℕ → ℕ → Option Numbered
cut_option words option other =
    if has_option words option
    then option_map (λ n. record { words = take (length words - 2) words; number = n }) (last_number words)
    else Some (record { words = words; number = other })

-- what is asked for with this last second, where the first is known
abbrev pub values_from : RunWords → ℕ → Option Numbered → Option Asked
values_from run last None = None
values_from run last (Some cut) = Some (Values (record { run = run; names = cut.words; first = cut.number; last = last }))

-- the same, where the last is known
abbrev pub values_to : RunWords → Option Numbered → Option Asked
values_to run None = None
values_to run (Some cut) = values_from run cut.number (cut_option cut.words (codes "--from") 1)

-- NAME .. --from N --to N
abbrev pub values_form : RunWords → List (List ℕ) → Option Asked
values_form run words = values_to run (cut_option words (codes "--to") 604800)

-- --csv, or no word
abbrev pub ends_form : RunWords → List (List ℕ) → Option Asked
ends_form run [] = Some (HowEnded (record { run = run; csv = false }))
ends_form run (word ∷ []) = if bytes_eq word (codes "--csv") then Some (HowEnded (record { run = run; csv = true })) else None
ends_form run _ = None

-- the style that a word names
abbrev pub style_of : List ℕ → Option Style
style_of word =
    if bytes_eq word (codes "--csv") then Some Csv else (if bytes_eq word (codes "--lcov") then Some Lcov else None)

-- whether words are `--add` with a file behind it, any number of times
abbrev pub are_added : List (List ℕ) → Bool
are_added [] = true
are_added (option ∷ []) = false
are_added (option ∷ file ∷ words) = bytes_eq option (codes "--add") && are_added words

-- the files of such words
abbrev pub files_in : List (List ℕ) → List (List ℕ)
files_in [] = []
files_in (option ∷ []) = []
files_in (option ∷ file ∷ words) = file ∷ files_in words

-- --add DETECTORS ..
abbrev pub lines_in : RunWords → Style → List (List ℕ) → Option Asked
lines_in run style words =
    if are_added words then Some (Lines (record { run = run; style = style; added = files_in words })) else None

-- the style that a word names, before those words; or the table, where it names none and is one of them
abbrev pub lines_by : RunWords → Option Style → (word : List ℕ) → List (List ℕ) → Option Asked
lines_by run None word words = lines_in run Table (word ∷ words)
lines_by run (Some style) word words = lines_in run style words

-- --csv, --lcov or neither, and --add DETECTORS ..
abbrev pub lines_form : RunWords → List (List ℕ) → Option Asked
lines_form run [] = lines_in run Table []
lines_form run (word ∷ words) = lines_by run (style_of word) word words

-- the listing of the second of this number, if it is one
abbrev pub second_in : RunWords → Option ℕ → Option Asked
second_in run None = None
second_in run (Some n) = Some (Second (record { run = run; second = n }))

-- N
abbrev pub second_form : RunWords → List (List ℕ) → Option Asked
second_form run (word ∷ []) = second_in run (within 1 604800 (number_of word))
second_form run _ = None

-- no word
abbrev pub trace_form : RunWords → List (List ℕ) → Option Asked
trace_form run [] = Some (Trace run)
trace_form run (word ∷ words) = None

-- --help and --version
abbrev pub lone_form : List ℕ → Option Asked
lone_form word =
    if bytes_eq word (codes "--help") then Some Help
    else (if bytes_eq word (codes "--version") then Some Version else None)

-- FORM and the names of files, and the words behind them
abbrev pub run_form : (form : List ℕ) → RunWords → List (List ℕ) → Option Asked
run_form form run words =
    if bytes_eq form (codes "values") then values_form run words
    else (if bytes_eq form (codes "how-ended") then ends_form run words
    else (if bytes_eq form (codes "lines") then lines_form run words
    else (if bytes_eq form (codes "second") then second_form run words
    else (if bytes_eq form (codes "trace") then trace_form run words else None))))

-- what the words after the program's name ask for; None where they are no form
abbrev pub form_of : List (List ℕ) → Option Asked
form_of (word ∷ []) = lone_form word
form_of (form ∷ program ∷ plan ∷ times ∷ intergreens ∷ detectors ∷ words) =
    run_form form (record {
      program = program;
      site = record { plan = plan; times = times; intergreens = intergreens };
      detectors = detectors;
    }) words
form_of _ = None
