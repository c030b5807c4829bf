-- What the words of a call ask for.
use Rattle.std.specs.Prelude.{ℕ, Bool, false, List, ◌∷◌, codes, ◌&&◌, Option, None, Some, Result, Ok, Err, if◌then◌else◌}
use Rattle.std.specs.Str.{bytes_eq}
use Rattle.site_load.specs.Loading.{SiteFiles}
use Rattle.site_load.specs.Sites.{site_in}
use Rattle.log_svg.specs.LookIn.{look_in}
use Rattle.log_svg.specs.Words.{Looked}
use Rattle.report_seen.specs.declared.diagram_form.Window.{Window}
use Rattle.report_seen.specs.declared.stop.Stop.{Stop}
use Rattle.report_seen.specs.declared.stop.Stop.TheVariants.{Words}
use Rattle.report_seen.specs.DiagramForm.{window_of}
use Rattle.report_seen.specs.Look.{look_of}
use Rattle.report_judged.specs.declared.site_form.SiteForm.{SiteForm}

-- a log, the seconds of the diagram, the files of its site, and how it is to look
pub record Asked : Type 0 where
  pub log : List ℕ
  pub window : Window
  pub site : SiteFiles
  pub look : Looked

-- what is asked for of these seconds, where the words say how it is to look
abbrev pub looks_form : List ℕ → SiteFiles → Window → Option Looked → Result Asked Stop
looks_form log site window None = Err Words
looks_form log site window (Some look) = Ok (record { log = log; window = window; site = site; look = look })

-- the same where the seconds may be wrong
abbrev pub window_form : List ℕ → SiteFiles → Result Window Stop → Option Looked → Result Asked Stop
window_form log site (Err stop) look = Err stop
window_form log site (Ok window) look = looks_form log site window look

-- the words begin as diagram LOG FROM TO --site
abbrev pub has_site : List (List ℕ) → Bool
has_site (word ∷ log ∷ from ∷ to ∷ option ∷ rest) = bytes_eq word (codes "diagram") && bytes_eq option (codes "--site")
has_site _ = false

-- diagram LOG FROM TO --site PUA TIMES INTERGREENS, and how it is to look
abbrev pub form_of : List (List ℕ) → Result Asked Stop
form_of (word ∷ log ∷ from ∷ to ∷ option ∷ plan ∷ times ∷ intergreens ∷ rest) =
    if bytes_eq word (codes "diagram") && bytes_eq option (codes "--site")
    then window_form log (record { plan = plan; times = times; intergreens = intergreens }) (window_of from to) (look_of rest)
    else Err Words
form_of _ = Err Words

-- what is asked for, as the program holds it
abbrev pub asked_in : SiteForm → Asked
asked_in form = record { log = form.log.now; window = form.window; site = site_in form.site; look = look_in form.look }

-- the same where the words are a form
abbrev pub asked_by : Result SiteForm Stop → Result Asked Stop
asked_by (Err stop) = Err stop
asked_by (Ok form) = Ok (asked_in form)
