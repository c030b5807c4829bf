-- The first difference of two logs.
use Rattle.std.specs.Prelude.{◌≡◌, ℕ, ◌-◌, ◌<◌, ◌≤◌, List, length, take, slice_index_or}
use Rattle.sig_types.specs.declared.record.Record.{Record}
use Rattle.log_read.specs.Log.{line_at}
use Rattle.log_read.specs.Watchers.{told_lines}
use Rattle.log_compare.specs.declared.difference.Difference.{Difference}
use Rattle.log_compare.specs.declared.difference.Difference.TheVariants.{Nowhere, OneEnds, OtherEnds, In}

-- both logs have this second, with different records, and the same records before it
pub record IsFirst (second : ℕ) (rs ss : List Record) : Type 0 where
  pub some : 1 ≤ second
  pub one : second ≤ length rs
  pub other : second ≤ length ss
  pub before : take (second - 1) rs ≡ take (second - 1) ss
  pub differs : (d : Record) → slice_index_or rs (second - 1) d ≡ slice_index_or ss (second - 1) d → ⊥

-- the first ones of these records end with this second; the second ones have the same, and more
pub record EndsFirst (last : ℕ) (rs ss : List Record) : Type 0 where
  pub count : length rs ≡ last
  pub goes_on : last < length ss
  pub same : take last ss ≡ rs

-- where logs with these bytes and these records differ first
abbrev pub IsDifference : (bytes others : List ℕ) (rs ss : List Record) → Difference → Type 0
IsDifference bytes others rs ss Nowhere = rs ≡ ss
IsDifference bytes others rs ss (OneEnds last) = EndsFirst last rs ss
IsDifference bytes others rs ss (OtherEnds last) = EndsFirst last ss rs
IsDifference bytes others rs ss (In second one other) =
    IsFirst second rs ss × ((line_at (told_lines bytes) second ≡ one.now) × (line_at (told_lines others) second ≡ other.now))
