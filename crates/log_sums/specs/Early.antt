-- Turns that are refused before the first green of their group.
use Rattle.std.specs.Prelude.{◌≡◌, ℕ, ◌<◌, ◌≤◌, ◌==◌, Bool, true, List, filter, map, slice_index_or}
use Rattle.sig_types.specs.declared.aspect.Aspect.{Aspect}
use Rattle.sig_types.specs.declared.refused.TurnRefusal.{TurnRefusal}
use Rattle.log_sums.specs.declared.group.GroupSums.{GroupSums}
use Rattle.log_sums.specs.Groups.{greens_of}
use Rattle.log_sums.specs.Spells.{begins, last_to}
use Rattle.log_sums.specs.Told.{alone}

-- no green began in the seconds 1 to t
abbrev pub is_early : (ℕ → Aspect) → ℕ → Bool
is_early a t = last_to (begins (greens_of a)) t == 0

-- the refused turns of second t whose group shows what it shows, and had no green yet; by group and rule
abbrev pub early_of : (ℕ → ℕ → Aspect) → (ℕ → List TurnRefusal) → ℕ → List TurnRefusal
early_of shown turns t = map alone (filter (λ r. is_early (shown r.group.0) t) (turns t))

-- the test tells of which groups no green began, of so many that are shown; of all others none did
pub record TellsEarly (shown : ℕ) (groups : List GroupSums) (early : ℕ → Bool) : Type 0 where
  pub these : (g : ℕ) (d : GroupSums) → g < shown → early g ≡ ((slice_index_or groups g d).cycles.last == 0)
  pub others : (g : ℕ) → shown ≤ g → early g ≡ true
