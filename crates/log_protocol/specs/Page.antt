-- What a page stands for.
use Rattle.std.specs.Prelude.{◌≡◌, ℕ, ◌+◌, ◌*◌, ◌<◌, ◌≤◌, length}
use Rattle.sig_types.specs.Turns.{History, trace}
use Rattle.log_judge.specs.declared.protocol.Kind.{Kind}
use Rattle.log_judge.specs.declared.protocol.Kind.TheVariants as kind
use Rattle.log_judge.specs.declared.protocol.Extremes.{Extremes}
use Rattle.log_judge.specs.Came.{runs_at}
use Rattle.log_judge.specs.HasCame.{HasCame}
use Rattle.log_judge.specs.Stands as stands
use Rattle.log_protocol.specs.declared.page.Page.{Page}
use Rattle.log_protocol.specs.Came.{Came, unknown_past, both_green, together}
use Rattle.log_protocol.specs.Steps.{together_at}

-- the number of its groups
unfoldable pub groups_of : Page → ℕ
groups_of page = stands.groups_of page.judge

-- the number of pictures that were added
unfoldable pub seconds_of : Page → ℕ
seconds_of page = stands.seconds_of page.judge

-- what it has of a group
abbrev pub runs_on : Page → Kind → ℕ → Extremes
runs_on page kind.Green g = runs_at page.protocol.greens g
runs_on page kind.Red g = runs_at page.protocol.reds g
runs_on page kind.RedAmber g = runs_at page.protocol.red_ambers g
runs_on page kind.Amber g = runs_at page.protocol.ambers g

-- what it tells
unfoldable pub came_on : Page → Came
came_on page = record {
  runs = runs_on page;
  changes = λ to from. runs_at page.protocol.pairs.items (64 * to + from);
  greens = λ g i. together_at page.together.items (64 * g + i);
}

-- the page of the pictures of this history
pub record HasPage (page : Page) (h : History) : Type 0 where
  pub judged : stands.StandsFor page.judge h
  pub terms : stands.terms_of page.judge ≡ unknown_past 0
  pub long : length h ≡ stands.seconds_of page.judge
  pub few : length h ≤ 6048002
  pub came : HasCame page.protocol (unknown_past 0) (stands.groups_of page.judge) h
  pub greens : (g i : ℕ) → g < stands.groups_of page.judge → i < stands.groups_of page.judge →
      together_at page.together.items (64 * g + i) ≡ together (both_green (trace h g) (trace h i) (length h))

-- the page stands for this history
unfoldable pub IsPageOf : Page → History → Type 0
IsPageOf page h = HasPage page h
