-- Intergreens between the groups of a plan.
use Rattle.std.specs.Prelude.{◌≡◌, ℕ, ◌+◌, ◌*◌, ◌<◌, ◌≤◌, true, ◌&&◌, List, length, slice_index_or, Option, Some, None, is_some, if◌then◌else◌, nat_lt}

-- the number of groups, and the seconds of each pair of groups in a square of 64 times 64 cells
pub record Pairs : Type 0 where
  pub count : ℕ
  pub cells : List (Option ℕ)

-- the cell of a pair
unfoldable pub cell_of : List (Option ℕ) → ℕ → ℕ → Option ℕ
cell_of cells i g = if nat_lt i 64 && nat_lt g 64 then slice_index_or cells (64 * i + g) None else None

-- the intergreen in seconds from an end of the first group to a green of the second, where the two conflict
abbrev pub between : Pairs → ℕ → ℕ → Option ℕ
between p i g = cell_of p.cells i g

-- 1 to 64 groups; pairs of two different groups below the count, listed both ways, with 0 to 99 seconds
pub record ArePairs (p : Pairs) : Type 0 where
  pub at_least : 1 ≤ p.count
  pub at_most : p.count ≤ 64
  pub size : length p.cells ≡ 4096
  pub inside : (i g z : ℕ) → between p i g ≡ Some z → (i < p.count) × (g < p.count)
  pub range : (i g z : ℕ) → between p i g ≡ Some z → z ≤ 99
  pub both : (i g z : ℕ) → between p i g ≡ Some z → is_some (between p g i) ≡ true
  pub other : (g : ℕ) → between p g g ≡ None
