-- How soon the guard shows what is wished where nothing of what has been holds a turn back any more.
use Rattle.std.specs.Prelude.{◌≡◌, ◌⊎◌, ℕ, suc, ◌+◌, ◌<◌, ◌≤◌, max, true, List, Bool, [], length}
use Rattle.sig_types.specs.declared.aspect.Aspect.TheVariants.{Red, Green}
use Rattle.sig_types.specs.Rules.{Rules}
use Rattle.sig_types.specs.Turns.{History, trace, turns_green_at, turns_red_at, ends_at}
use Rattle.sig_guard.specs.Safety.{Conflicting, IsHistory, Safe}
use Rattle.sig_guard.specs.Step.{guard_refused}
use Rattle.sig_response.specs.Bounds.{greatest, intergreen, after_end, shown_within}
use Rattle.sig_response.specs.Laws.{IsSite, AreApart, AllShown}
use Rattle.sig_response.specs.Onward.{onward, always, shows}

-- Each group rests in red or green, and in the next second each minimum green, each minimum red and each intergreen has passed.
pub record IsAtRest (site : Rules) (history : History) : Type 0 where
  pub rests : (group : ℕ) → group < site.count → (shows history group ≡ Red) ⊎ (shows history group ≡ Green)
  pub green : (group begin : ℕ) → group < site.count → turns_green_at (trace history group) begin ≡ true →
      begin < length history → begin + site.minimum_green group ≤ length history
  pub red : (group begin : ℕ) → group < site.count → turns_red_at (trace history group) begin ≡ true →
      begin < length history → begin + site.minimum_red group ≤ length history
  pub cleared : (clearing entering intergreen end : ℕ) → Conflicting site clearing entering intergreen →
      ends_at (trace history clearing) end ≡ true → end < length history → end + intergreen ≤ length history + site.red_amber entering

-- the longest that a turn of the group holds another turn back: its minimum green, its minimum red, or an intergreen from it
abbrev pub held_within : Rules → (group : ℕ) → ℕ
held_within site group =
    max (max (site.minimum_green group) (site.minimum_red group)) (greatest (intergreen site group) site.count)

-- the seconds within which each group shows what is wished of it, and a history is at rest
abbrev pub rests_within : Rules → ℕ
rests_within site = shown_within site + greatest (held_within site) site.count

-- Where the same is wished from now on, and green of no two groups in conflict, then after `rests_within` seconds the history is
-- at rest, and stays so.
abbrev pub ComesToRest : Type 0
ComesToRest =
    (site : Rules) (history : History) (wishes : List Bool) (seconds : ℕ) →
    IsSite site → IsHistory site.count history → Safe site history → AreApart site wishes →
    rests_within site ≤ seconds → IsAtRest site (onward site history (always wishes) seconds)

-- the seconds from an end of the clearing group to the green of the entering one; nothing without a conflict
abbrev pub cleared_within : Rules → (entering clearing : ℕ) → ℕ
cleared_within site entering clearing = after_end 0 (site.red_amber entering) (site.between clearing entering)

-- the longest that a group takes from the second of its turn to what is wished: its amber, its red-amber, or an intergreen to it
abbrev pub turned_within : Rules → (group : ℕ) → ℕ
turned_within site group =
    max (max (site.amber group) (site.red_amber group)) (greatest (cleared_within site group) site.count)

-- the seconds within which each group shows what is wished of it after a history at rest
abbrev pub shown_within_at_rest : Rules → ℕ
shown_within_at_rest site = suc (greatest (turned_within site) site.count)

-- After a history at rest, and where the same is wished from now on, green of no two groups in conflict, then after
-- `shown_within_at_rest` seconds each group shows what is wished of it; it stays so, and no turn is refused.
abbrev pub ShowsSoonerAtRest : Type 0
ShowsSoonerAtRest =
    (site : Rules) (history : History) (wishes : List Bool) (seconds : ℕ) →
    IsSite site → IsHistory site.count history → Safe site history → IsAtRest site history → AreApart site wishes →
    shown_within_at_rest site ≤ seconds →
    AllShown site (onward site history (always wishes) seconds) wishes
    × (guard_refused site (onward site history (always wishes) seconds) wishes ≡ [])
