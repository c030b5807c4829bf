-- The worst case of the files of a site is one in which all is shown.
use Rattle.std.specs.Prelude.{◌≡◌, ℕ, ◌≤◌, Bool, List, [], Ok}
use Rattle.sig_io.specs.Outside.{Contents}
use Rattle.sig_types.specs.Turns.{History}
use Rattle.sig_guard.specs.Safety.{IsHistory, Safe}
use Rattle.sig_guard.specs.Step.{guard_refused}
use Rattle.controller.specs.Past.{Site}
use Rattle.sig_response.specs.declared.worst.WorstCase.{WorstCase}
use Rattle.sig_response.specs.Laws.{AllShown, AreApart, IsSite}
use Rattle.sig_response.specs.Onward.{always, onward}
use Rattle.sig_response.specs.Worst.{IsWorstCase}
use Rattle.junction_run.specs.Form.{SiteWords}
use Rattle.junction_run.specs.Loading.{site_of}

-- the rules of each site that files give are those for which the bounds hold: intergreens are two-way, and each minimum green and
-- minimum red is a second at least
abbrev pub FilesGiveSites : Type 0
FilesGiveSites = (words : SiteWords) (file : Contents) (site : Site) → site_of words file ≡ Ok site → IsSite site.rules

-- After any safe history at the site of the files, whoever made it: where the same is wished in each second, green of groups of
-- which no two conflict, then after the seconds of the site's worst case, as `junction_check` tells it, each group shows what is
-- wished of it, and no turn is refused any more.
abbrev pub WorstCaseIsShown : Type 0
WorstCaseIsShown =
    (words : SiteWords) (file : Contents) (site : Site) (worst : WorstCase) (history : History) (wishes : List Bool) (seconds : ℕ) →
    site_of words file ≡ Ok site → IsWorstCase site.rules worst → IsHistory site.rules.count history → Safe site.rules history →
    AreApart site.rules wishes → worst.seconds ≤ seconds →
    AllShown site.rules (onward site.rules history (always wishes) seconds) wishes
    × (guard_refused site.rules (onward site.rules history (always wishes) seconds) wishes ≡ [])
