-- The cell of a run with watchers, as it is made.
use Rattle.std.specs.Prelude.{◌≡◌, ◌+◌, ◌≤◌, ℕ, length, Option, None, Some}
use Rattle.picture_cell.specs.Sides.{IsOpening}
use Rattle.junction_live.specs.declared.cell.WatchedCell.{WatchedCell}

-- a cell for pictures of so many groups, with room for the second of each frame and the closing one; its watchers have not looked
pub record IsCellFor (groups frames : ℕ) (w : WatchedCell) : Type 0 where
  pub opening : IsOpening groups (length w.watchers.items) w.cell.seconds w.cell w.publisher w.watchers.items
  pub few : length w.watchers.items ≤ 8
  pub seconds_are : w.cell.seconds ≡ frames + 1

-- how many watchers a cell has, if there is one
abbrev pub watchers_in : Option WatchedCell → ℕ
watchers_in None = 0
watchers_in (Some w) = length w.watchers.items

-- the cell, if there is one, is such a cell
abbrev pub IsCell : (groups frames : ℕ) → Option WatchedCell → Type 0
IsCell groups frames None = Unit {0}
IsCell groups frames (Some w) = IsCellFor groups frames w

-- a cell with so many watchers, or none where there are none
abbrev pub HasWatchers : (groups frames watchers : ℕ) → Option WatchedCell → Type 0
HasWatchers groups frames watchers cell = IsCell groups frames cell × (watchers_in cell ≡ watchers)
