-- How soon the guard shows what is wished.
use Rattle.std.specs.Prelude.{◌≡◌, ℕ, ◌<◌, ◌≤◌, true, false, Bool, List, [], is_some}
use Rattle.sig_types.specs.declared.aspect.Aspect.TheVariants.{Red, Green}
use Rattle.sig_types.specs.Rules.{Rules, IsTwoWay}
use Rattle.sig_types.specs.Turns.{History, is_on}
use Rattle.sig_guard.specs.Safety.{IsHistory, Safe}
use Rattle.sig_guard.specs.declared.guard.Guard.{Guard}
use Rattle.sig_guard.specs.Stands.{StandsFor, rules}
use Rattle.sig_guard.specs.Steady.{shows_wish}
use Rattle.sig_guard.specs.Step.{is_green_wished, guard_refused}
use Rattle.sig_response.specs.Bounds.{red_within, green_within, shown_within}
use Rattle.sig_response.specs.Onward.{Wished, onward, always, shows, IsWishedRed, IsWishedGreen}

-- a site's rules as its tables give them: conflicts are listed both ways, and minimum greens and minimum reds are at least 1
pub record IsSite (site : Rules) : Type 0 where
  pub two_way : IsTwoWay site
  pub green : (group : ℕ) → group < site.count → 1 ≤ site.minimum_green group
  pub red : (group : ℕ) → group < site.count → 1 ≤ site.minimum_red group

-- the two groups conflict
abbrev pub AreInConflict : Rules → (one other : ℕ) → Type 0
AreInConflict site one other = is_some (site.between one other) ≡ true

-- A group of which red is wished from now on is red after `red_within` seconds, and stays so, whatever is wished of the others
-- and whatever has been.
abbrev pub TurnsRed : Type 0
TurnsRed =
    (site : Rules) (history : History) (wished : Wished) (group seconds : ℕ) →
    IsSite site → IsHistory site.count history → Safe site history → group < site.count →
    IsWishedRed wished seconds group →
    red_within site group ≤ seconds → shows (onward site history wished seconds) group ≡ Red

-- A group of which green is wished from now on, and red of each group in conflict with it, is green after `green_within` seconds,
-- and stays so, whatever is wished of the others and whatever has been.
abbrev pub TurnsGreen : Type 0
TurnsGreen =
    (site : Rules) (history : History) (wished : Wished) (group seconds : ℕ) →
    IsSite site → IsHistory site.count history → Safe site history → group < site.count →
    IsWishedGreen wished seconds group →
    ((other : ℕ) → other < site.count → AreInConflict site other group → IsWishedRed wished seconds other) →
    green_within site group ≤ seconds → shows (onward site history wished seconds) group ≡ Green

-- no two groups of which green is wished are in conflict
abbrev pub AreApart : Rules → List Bool → Type 0
AreApart site wishes =
    (one other : ℕ) → one < site.count → other < site.count → AreInConflict site one other →
    is_green_wished wishes one ≡ true → is_green_wished wishes other ≡ true → ⊥

-- each group shows in the last second what is wished of it, green or red
abbrev pub AllShown : Rules → History → List Bool → Type 0
AllShown site history wishes =
    (group : ℕ) → group < site.count → shows_wish (shows history group) (is_green_wished wishes group) ≡ true

-- Where the same is wished from now on, and green of no two groups in conflict, then after `shown_within` seconds each group shows
-- what is wished of it; it stays so, and no turn is refused.
abbrev pub ShowsWhatIsWished : Type 0
ShowsWhatIsWished =
    (site : Rules) (history : History) (wishes : List Bool) (seconds : ℕ) →
    IsSite site → IsHistory site.count history → Safe site history → AreApart site wishes →
    shown_within site ≤ seconds →
    AllShown site (onward site history (always wishes) seconds) wishes
    × (guard_refused site (onward site history (always wishes) seconds) wishes ≡ [])

-- So a guard does after whatever history it stands for, with whatever tables.
abbrev pub GuardsRespond : Type 0
GuardsRespond =
    (guard : Guard) (history : History) (wishes : List Bool) (seconds : ℕ) →
    StandsFor guard history → IsSite (rules guard) → AreApart (rules guard) wishes →
    shown_within (rules guard) ≤ seconds →
    AllShown (rules guard) (onward (rules guard) history (always wishes) seconds) wishes
    × (guard_refused (rules guard) (onward (rules guard) history (always wishes) seconds) wishes ≡ [])

-- Of two groups in conflict of which green is wished for ever the one that is red-amber or green stays so, and the other one never
-- starts, whatever is wished of the others.
abbrev pub FirstStays : Type 0
FirstStays =
    (site : Rules) (history : History) (wished : Wished) (first other seconds : ℕ) →
    IsSite site → IsHistory site.count history → Safe site history →
    first < site.count → other < site.count → AreInConflict site first other →
    is_on (shows history first) ≡ true → IsWishedGreen wished seconds first →
    (is_on (shows (onward site history wished seconds) first) ≡ true)
    × (is_on (shows (onward site history wished seconds) other) ≡ false)
