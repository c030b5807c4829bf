-- A condition, which holds in a second or doesn't, from second 1 on. A spell is a run of seconds in which it holds, as long as it
-- can be: it begins in its first second, and is over in the first second behind it.
use Rattle.std.specs.Prelude.{◌≡◌, ℕ, zero, suc, ◌+◌, ◌-◌, ◌==◌, Bool, false, ◌&&◌, if◌then◌else◌}
use Rattle.log_sums.specs.declared.spells.Spells.{Spells}
use Rattle.log_sums.specs.declared.gaps.Gaps.{Gaps}
use Rattle.log_sums.specs.Series.{AreFigures, since}

-- for how many seconds without a break the condition has held up to and with second t; 0 where it doesn't hold
abbrev pub run : (ℕ → Bool) → ℕ → ℕ
run h zero = 0
run h (suc t) = if h (suc t) then run h t + 1 else 0

-- a spell begins in second t
abbrev pub begins : (ℕ → Bool) → ℕ → Bool
begins h zero = false
begins h (suc t) = h (suc t) && (run h t == 0)

-- how many seconds the spell has that is over in second t; 0 where none is
abbrev pub over : (ℕ → Bool) → ℕ → ℕ
over h zero = 0
over h (suc t) = if h (suc t) then 0 else run h t

-- 1 where the condition holds
abbrev pub held : (ℕ → Bool) → ℕ → ℕ
held h t = if h t then 1 else 0

-- the last of the seconds 1 to t in which the condition holds; 0 where there is none
abbrev pub last_to : (ℕ → Bool) → ℕ → ℕ
last_to h zero = 0
last_to h (suc t) = if h (suc t) then suc t else last_to h t

-- how many seconds lie from the last second in which the condition held to second t, where it holds in both; and else 0
abbrev pub gap : (ℕ → Bool) → ℕ → ℕ
gap h zero = 0
gap h (suc t) = if h (suc t) then (if last_to h t == 0 then 0 else suc t - last_to h t) else 0

-- how many seconds there are from the last second in which the condition held up to second t, both counted; 0 where it never held
abbrev pub age : (ℕ → Bool) → ℕ → ℕ
age h t = if last_to h t == 0 then 0 else t + 1 - last_to h t

-- the spells of a condition in the seconds 1 to n, counted from second `from` on; a spell counts where it is over, with all its seconds
pub record AreSpells (h : ℕ → Bool) (from n : ℕ) (x : Spells) : Type 0 where
  pub run_is : x.run ≡ run h n
  pub held_are : AreFigures (since from (held h)) n x.held
  pub begun_are : AreFigures (since from (held (begins h))) n x.begun
  pub over_are : AreFigures (since from (over h)) n x.over

-- the gaps between the seconds 1 to n in which a condition holds, counted from second `from` on where they end
pub record AreGaps (h : ℕ → Bool) (from n : ℕ) (x : Gaps) : Type 0 where
  pub last_is : x.last ≡ last_to h n
  pub gaps_are : AreFigures (since from (gap h)) n x.gaps
  pub ages_are : AreFigures (since from (age h)) n x.ages
