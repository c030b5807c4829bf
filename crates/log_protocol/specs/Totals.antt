-- What totals of pages stand for.
use Rattle.std.specs.Prelude.{◌≡◌, ℕ, ◌+◌, ◌*◌, ◌<◌, List}
use Rattle.log_judge.specs.declared.protocol.Kind.{Kind}
use Rattle.log_judge.specs.declared.protocol.Kind.TheVariants as kind
use Rattle.log_judge.specs.declared.protocol.Extremes.{Extremes}
use Rattle.log_judge.specs.Came.{runs_at}
use Rattle.tenth_records.specs.Parts.{Part}
use Rattle.log_protocol.specs.declared.totals.Totals.{Totals}
use Rattle.log_protocol.specs.Came.{Came}
use Rattle.log_protocol.specs.Parts.{came_in_parts}
use Rattle.log_protocol.specs.Steps.{together_at}

-- what they have of a group
abbrev pub total_runs : Totals → Kind → ℕ → Extremes
total_runs totals kind.Green g = runs_at totals.greens g
total_runs totals kind.Red g = runs_at totals.reds g
total_runs totals kind.RedAmber g = runs_at totals.red_ambers g
total_runs totals kind.Amber g = runs_at totals.ambers g

-- what they tell
unfoldable pub came_at : Totals → Came
came_at totals = record {
  runs = total_runs totals;
  changes = λ to from. runs_at totals.changes.items (64 * to + from);
  greens = λ g i. together_at totals.together.items (64 * g + i);
}

-- what two pages tell of the groups below n
pub record SameCame (x y : Came) (n : ℕ) : Type 0 where
  pub runs : (kind : Kind) (g : ℕ) → g < n → x.runs kind g ≡ y.runs kind g
  pub changes : (to from : ℕ) → to < n → from < n → x.changes to from ≡ y.changes to from
  pub greens : (g i : ℕ) → g < n → i < n → x.greens g i ≡ y.greens g i

-- they tell of so many groups what came in these parts
unfoldable pub AreTotalsOf : Totals → ℕ → List Part → Type 0
AreTotalsOf totals n parts = SameCame (came_at totals) (came_in_parts parts) n
