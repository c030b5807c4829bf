-- What the guard makes of a history, second by second.
use Rattle.std.specs.Prelude.{◌≡◌, ℕ, zero, suc, ◌-◌, ◌<◌, true, false, List, Bool, [], ◌∷◌, ◌++◌, length, slice_index_or}
use Rattle.sig_types.specs.declared.aspect.Aspect.{Aspect}
use Rattle.sig_types.specs.Rules.{Rules}
use Rattle.sig_types.specs.Turns.{History, trace}
use Rattle.sig_guard.specs.Step.{guard_picture}

-- what is wished in each second from now on, a list of all groups a second
abbrev pub Wished : Type 0
Wished = ℕ → List Bool

-- the history after so many seconds more of the guard; the first of them has the wishes `wished 0`, the next `wished 1`, and so on
unfoldable pub onward : Rules → History → Wished → (seconds : ℕ) → History
onward site history wished zero = history
onward site history wished (suc seconds) =
    onward site history wished seconds
    ++ guard_picture site (onward site history wished seconds) (wished seconds) ∷ []

-- the same wishes in each second
abbrev pub always : List Bool → Wished
always wishes = λ second. wishes

-- what a group shows in the last second of a history
abbrev pub shows : History → (group : ℕ) → Aspect
shows history group = trace history group (length history - 1)

-- red is wished of the group in each of the next so many seconds
abbrev pub IsWishedRed : Wished → (seconds group : ℕ) → Type 0
IsWishedRed wished seconds group = (second : ℕ) → second < seconds → slice_index_or (wished second) group false ≡ false

-- green is wished of the group in each of the next so many seconds
abbrev pub IsWishedGreen : Wished → (seconds group : ℕ) → Type 0
IsWishedGreen wished seconds group = (second : ℕ) → second < seconds → slice_index_or (wished second) group false ≡ true
