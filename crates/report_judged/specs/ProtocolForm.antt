-- What the words of a call ask for.
use Rattle.std.specs.Prelude.{ℕ, List, [], ◌∷◌, codes, Option, None, Some, if◌then◌else◌}
use Rattle.std.specs.Str.{bytes_eq}
use Rattle.site_load.specs.Loading.{SiteFiles}
use Rattle.site_load.specs.Sites.{site_in}
use Rattle.log_protocol.specs.declared.text.Style.{Style}
use Rattle.log_protocol.specs.declared.text.Style.TheVariants.{Table, Lines}
use Rattle.report_judged.specs.declared.protocol_form.ProtocolForm.{ProtocolForm}

-- a log, the files of its site, and how the page is written
pub record Asked : Type 0 where
  pub log : List ℕ
  pub site : SiteFiles
  pub style : Style

-- --csv
abbrev pub style_for : List ℕ → Option Style
style_for word = if bytes_eq word (codes "--csv") then Some Table else None

-- nothing, or --csv
abbrev pub style_of : List (List ℕ) → Option Style
style_of [] = Some Lines
style_of (word ∷ []) = style_for word
style_of (word ∷ other ∷ rest) = None

-- what is asked for, where the last words are no form either
abbrev pub with_style : List ℕ → SiteFiles → Option Style → Option Asked
with_style log site None = None
with_style log site (Some style) = Some (record { log = log; site = site; style = style })

-- protocol LOG PUA TIMES INTERGREENS, and --csv
abbrev pub form_of : List (List ℕ) → Option Asked
form_of (word ∷ log ∷ plan ∷ times ∷ intergreens ∷ rest) =
    if bytes_eq word (codes "protocol")
    then with_style log (record { plan = plan; times = times; intergreens = intergreens }) (style_of rest)
    else None
form_of _ = None

-- what is asked for, as the program holds it
abbrev pub asked_in : ProtocolForm → Asked
asked_in form = record { log = form.log.now; site = site_in form.site; style = form.style }

-- the same where the words are a form
abbrev pub asked_by : Option ProtocolForm → Option Asked
asked_by None = None
asked_by (Some form) = Some (asked_in form)
