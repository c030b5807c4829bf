-- What a page tells is what came in its history.
use Rattle.std.proofs.Common.{◌≡◌, ◌∙◌, ℕ, ◌-◌, ◌<◌, length, sym, arith}
use Rattle.sig_types.specs.Turns.{History, trace}
use Rattle.log_judge.specs.declared.protocol.Kind.{Kind}
use Rattle.log_judge.specs.declared.protocol.Kind.TheVariants.{Green, Red, RedAmber, Amber}
use Rattle.log_judge.specs.Stands as stands
use Rattle.log_protocol.specs.declared.page.Page.{Page}
use Rattle.log_protocol.specs.Came.{came_in, extremes, runs_of}
use Rattle.log_protocol.specs.Page.{HasPage, IsPageOf, came_on, groups_of, runs_on, seconds_of}
use Rattle.log_protocol.specs.Totals.{SameCame}
use Rattle.log_protocol.proofs.Extreme.{runs_are, changes_are}

pub same_seconds : (page : Page) (h : History) → IsPageOf page h → seconds_of page ≡ length h
unfolding IsPageOf seconds_of
same_seconds page h is = sym is.long

runs_same : (page : Page) (h : History) → HasPage page h → (kind : Kind) (g : ℕ) → g < stands.groups_of page.judge →
    runs_on page kind g ≡ extremes (runs_of kind (trace h g) (length h - 1))
runs_same page h is Green g lt = is.came.greens g lt ∙ runs_are Green (trace h g) (length h - 1) (omega (arith, is.few))
runs_same page h is Red g lt = is.came.reds g lt ∙ runs_are Red (trace h g) (length h - 1) (omega (arith, is.few))
runs_same page h is RedAmber g lt = is.came.red_ambers g lt ∙ runs_are RedAmber (trace h g) (length h - 1) (omega (arith, is.few))
runs_same page h is Amber g lt = is.came.ambers g lt ∙ runs_are Amber (trace h g) (length h - 1) (omega (arith, is.few))

pub same_came : (page : Page) (h : History) (n : ℕ) → IsPageOf page h → groups_of page ≡ n → SameCame (came_on page) (came_in h) n
unfolding IsPageOf groups_of came_on
same_came page h n is size = record {
  runs = λ kind g lt. runs_same page h is kind g (omega (arith, lt, size));
  changes = λ to from lt lt'. is.came.changes to from (omega (arith, lt, size)) (omega (arith, lt', size))
      ∙ changes_are (trace h from) (trace h to) (length h - 1) (omega (arith, is.few));
  greens = λ g i lt lt'. is.greens g i (omega (arith, lt, size)) (omega (arith, lt', size));
}
