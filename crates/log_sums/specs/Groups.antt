-- What the seconds of a group add up to. A group shows an aspect in each second from 1 on.
use Rattle.std.specs.Prelude.{ℕ, Bool}
use Rattle.sig_types.specs.declared.aspect.Aspect.{Aspect}
use Rattle.sig_types.specs.Turns.{is_green, is_red}
use Rattle.log_sums.specs.declared.group.GroupSums.{GroupSums}
use Rattle.log_sums.specs.Spells.{AreGaps, AreSpells, begins}

-- the group shows green
abbrev pub greens_of : (ℕ → Aspect) → ℕ → Bool
greens_of a t = is_green (a t)

-- the group shows red
abbrev pub reds_of : (ℕ → Aspect) → ℕ → Bool
reds_of a t = is_red (a t)

-- Its greens, its reds, and its cycles: the gaps between the seconds in which a green begins. They count from second `from` on.
pub record AreGroupSums (a : ℕ → Aspect) (from n : ℕ) (x : GroupSums) : Type 0 where
  pub greens_are : AreSpells (greens_of a) from n x.greens
  pub reds_are : AreSpells (reds_of a) from n x.reds
  pub cycles_are : AreGaps (begins (greens_of a)) from n x.cycles
