-- The words of a live run.
use Rattle.std.specs.Prelude.{ℕ, List, [], ◌∷◌, codes, Bool, false, Option, None, Some, if◌then◌else◌}
use Rattle.sig_types.specs.Text.{number_of, within}
use Rattle.junction_run.specs.Form.{SiteWords, is_word}

-- what a live run is asked for: the file of the program, those of its site, the detector file, and how many watchers look on
pub record LiveWords : Type 0 where
  pub program : List ℕ
  pub site : SiteWords
  pub detectors : List ℕ
  pub watchers : ℕ

-- a live run over these files, where there is a number of watchers
abbrev pub watched_by : (program : List ℕ) (site : SiteWords) (detectors : List ℕ) (watchers : Option ℕ) → Option LiveWords
watched_by program site detectors None = None
watched_by program site detectors (Some watchers) =
    Some (record { program = program; site = site; detectors = detectors; watchers = watchers })

-- COMMAND PROGRAM PUA TIMES INTERGREENS DETECTORS, with so many watchers
abbrev pub form_of_live : (command program : List ℕ) (site : SiteWords) (detectors : List ℕ) (watchers : Option ℕ) → Option LiveWords
form_of_live command program site detectors watchers =
    if is_word command (codes "live") then watched_by program site detectors watchers else None

-- live PROGRAM PUA TIMES INTERGREENS DETECTORS; live PROGRAM PUA TIMES INTERGREENS DETECTORS WATCHERS, a decimal number of 1 to 8
abbrev pub live_form : List (List ℕ) → Option LiveWords
live_form (command ∷ program ∷ plan ∷ times ∷ intergreens ∷ detectors ∷ []) =
    form_of_live command program (record { plan = plan; times = times; intergreens = intergreens }) detectors (Some 0)
live_form (command ∷ program ∷ plan ∷ times ∷ intergreens ∷ detectors ∷ watchers ∷ []) =
    form_of_live command program (record { plan = plan; times = times; intergreens = intergreens }) detectors
    (within 1 8 (number_of watchers))
live_form _ = None

-- whether the first word asks for a live run
abbrev pub begins_live : List (List ℕ) → Bool
begins_live [] = false
begins_live (command ∷ words) = is_word command (codes "live")

-- the files that are named, in the order in which they are read
abbrev pub files_of : LiveWords → List (List ℕ)
files_of form = form.site.plan ∷ form.site.times ∷ form.site.intergreens ∷ form.program ∷ form.detectors ∷ []
