-- That no controller which keeps the rules is faster: the seconds of `specs/Bounds` are the least that hold for every history.
use Rattle.std.specs.Prelude.{◌≡◌, ℕ, ◌+◌, ◌<◌, ◌≤◌, true, false, Bool, List, length}
use Rattle.sig_types.specs.declared.aspect.Aspect.TheVariants.{Red, Green}
use Rattle.sig_types.specs.Rules.{Rules}
use Rattle.sig_types.specs.Turns.{History, trace, starts_at, ends_at}
use Rattle.sig_guard.specs.Safety.{IsHistory, Safe}
use Rattle.sig_guard.specs.Steady.{shows_wish}
use Rattle.sig_guard.specs.Step.{is_green_wished}
use Rattle.sig_response.specs.Bounds.{red_within, green_again_within, free_within, shown_within}
use Rattle.sig_response.specs.Laws.{IsSite, AreInConflict, AreApart}
use Rattle.sig_response.specs.Onward.{onward, always, shows}

-- in a safe history, whoever made it, a group that starts is red again no sooner than `red_within` seconds later
abbrev pub NotRedSooner : Type 0
NotRedSooner =
    (site : Rules) (history : History) (group start second : ℕ) → Safe site history → group < site.count →
    starts_at (trace history group) start ≡ true → start ≤ second → second < length history →
    trace history group second ≡ Red → start + red_within site group ≤ second

-- a group that ends is green again no sooner than its amber, its minimum red and its red-amber later
abbrev pub NotGreenSooner : Type 0
NotGreenSooner =
    (site : Rules) (history : History) (group end second : ℕ) → Safe site history → group < site.count →
    1 ≤ end → ends_at (trace history group) end ≡ true → end ≤ second → second < length history →
    trace history group second ≡ Green → end + green_again_within site group ≤ second

-- after a start of the clearing group the entering one, in conflict with it, is green no sooner than `free_within` seconds later
abbrev pub NotFreeSooner : Type 0
NotFreeSooner =
    (site : Rules) (history : History) (entering clearing start second : ℕ) → Safe site history →
    entering < site.count → clearing < site.count → AreInConflict site clearing entering →
    starts_at (trace history clearing) start ≡ true → start ≤ second → second < length history →
    trace history entering second ≡ Green → start + free_within site entering clearing ≤ second

-- After a safe history, and where the same is wished in each second, green of no two groups in conflict, a group of the site shows
-- what is wished of it in none of the seconds before the bound.
pub record IsWorst (site : Rules) (past : History) (wishes : List Bool) (slow : ℕ) : Type 0 where
  pub history : IsHistory site.count past
  pub safe : Safe site past
  pub apart : AreApart site wishes
  pub group : slow < site.count
  pub late : (seconds : ℕ) → seconds < shown_within site →
      shows_wish (shows (onward site past (always wishes) seconds) slow) (is_green_wished wishes slow) ≡ false

-- at every site the bound is reached
abbrev pub BoundIsReached : Type 0
BoundIsReached =
    (site : Rules) → IsSite site → 1 ≤ site.count →
    (history : History) × (wishes : List Bool) × (group : ℕ) × IsWorst site history wishes group
