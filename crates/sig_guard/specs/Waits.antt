-- How long a turn of a group has to wait, where no group turns by a wish until then.
use Rattle.std.specs.Prelude.{◌≡◌, ℕ, zero, suc, ◌+◌, ◌<◌, ◌≤◌, Bool, true, false, [], ◌∷◌, ◌++◌, Option, Some, None, is_none, max}
use Rattle.sig_types.specs.declared.aspect.Aspect.{Aspect}
use Rattle.sig_types.specs.declared.aspect.Aspect.TheVariants.{Red, RedAmber, Green, Amber}
use Rattle.sig_types.specs.Rules.{Rules}
use Rattle.sig_types.specs.Turns.{History}
use Rattle.sig_guard.specs.declared.ages.GroupAge.{GroupAge}
use Rattle.sig_guard.specs.Alone.{turn_refusal}
use Rattle.sig_guard.specs.Step.{natural_picture}

-- the past after so many more seconds, of which each shows what comes by nature
abbrev pub by_nature : Rules → History → (seconds : ℕ) → History
by_nature site past zero = past
by_nature site past (suc seconds) = by_nature site past seconds ++ natural_picture site (by_nature site past seconds) ∷ []

-- the turn of the group is obeyed after so many seconds by nature, in the second that comes then
abbrev pub is_obeyed_after : Rules → History → (group seconds : ℕ) → Bool
is_obeyed_after site past group seconds = is_none (turn_refusal site (by_nature site past seconds) group)

-- the wait for the turn of the group: the least number of seconds by nature after which it is obeyed; none where it never is
unfoldable pub IsWait : Rules → History → (group : ℕ) → (wait : Option ℕ) → Type 0
IsWait site past group None = (seconds : ℕ) → is_obeyed_after site past group seconds ≡ false
IsWait site past group (Some wait) =
    (is_obeyed_after site past group wait ≡ true)
    × ((seconds : ℕ) → seconds < wait → is_obeyed_after site past group seconds ≡ false)

-- the second from which what a group shows has lasted long enough for its turn, by what is kept of it
abbrev pub turn_from : Rules → (group : ℕ) → GroupAge → Aspect → ℕ
turn_from site group age Red = age.since + site.minimum_red group
turn_from site group age RedAmber = age.since + site.red_amber group + max (site.minimum_green group) 1
turn_from site group age Green = age.since + site.minimum_green group
turn_from site group age Amber = age.last_end + site.amber group + max (site.minimum_red group) 1

-- from this second on no end that is kept lies too close before a start of the group
abbrev pub IsClearedFrom : Rules → (ages : ℕ → GroupAge) → (group second : ℕ) → Type 0
IsClearedFrom site ages group second =
    (clearing intergreen : ℕ) → clearing < site.count → site.between clearing group ≡ Some intergreen →
    (ages clearing).last_end + intergreen ≤ second + site.red_amber group
