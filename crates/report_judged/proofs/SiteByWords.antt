-- Words that are no form of the call are refused as such, or for their many seconds.
use Rattle.std.proofs.Common.{ℕ, Bool, true, false, List, [], ◌∷◌, Option, None, Some, Result, Ok, Err}
use Rattle.std.specs.Prelude.{codes, ◌&&◌, if◌then◌else◌}
use Rattle.std.specs.Str.{bytes_eq}
use Rattle.sig_types.specs.Text.{number_of, within}
use Rattle.site_load.specs.Loading.{SiteFiles}
use Rattle.log_svg.specs.Words.{Looked}
use Rattle.report_seen.specs.declared.diagram_form.Window.{Window}
use Rattle.report_seen.specs.declared.stop.Stop.{Stop}
use Rattle.report_seen.specs.declared.stop.Stop.TheVariants.{Words}
use Rattle.report_seen.specs.DiagramForm.{window_of}
use Rattle.report_seen.specs.Look.{look_of}
use Rattle.report_seen.proofs.DiagramCalls.{IsByWords, by_to}
use Rattle.report_judged.specs.SiteForm.{Asked, form_of, looks_form, window_form}

by_looks : (log : List ℕ) (site : SiteFiles) (window : Window) (look : Option Looked) → IsByWords (looks_form log site window look)
by_looks log site window None = tt
by_looks log site window (Some look) = tt

by_window : (log : List ℕ) (site : SiteFiles) (window : Result Window Stop) (look : Option Looked) → IsByWords window →
    IsByWords (window_form log site window look)
by_window log site (Err stop) look is = is
by_window log site (Ok window) look is = by_looks log site window look

by_choice : (b : Bool) (asked : Result Asked Stop) → IsByWords asked → IsByWords (if b then asked else Err Words)
by_choice true asked is = is
by_choice false asked is = tt

pub by_words : (words : List (List ℕ)) → IsByWords (form_of words)
by_words [] = tt
by_words (a ∷ []) = tt
by_words (a ∷ b ∷ []) = tt
by_words (a ∷ b ∷ c ∷ []) = tt
by_words (a ∷ b ∷ c ∷ d ∷ []) = tt
by_words (a ∷ b ∷ c ∷ d ∷ e ∷ []) = tt
by_words (a ∷ b ∷ c ∷ d ∷ e ∷ f ∷ []) = tt
by_words (a ∷ b ∷ c ∷ d ∷ e ∷ f ∷ g ∷ []) = tt
by_words (a ∷ b ∷ c ∷ d ∷ e ∷ f ∷ g ∷ h ∷ rest) =
    let site : SiteFiles = record { plan = f; times = g; intergreens = h } in
    by_choice (bytes_eq a (codes "diagram") && bytes_eq e (codes "--site")) (window_form b site (window_of c d) (look_of rest))
    (by_window b site (window_of c d) (look_of rest) (by_to d (within 1 604801 (number_of c))))
