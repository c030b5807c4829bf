-- The longest run of refusals, as `sums` tells it and as `refusals` does.
use Rattle.std.specs.Prelude.{◌≡◌, ℕ, suc, Bool, false}
use Rattle.log_sums.specs.Series.{most_to, since}
use Rattle.log_sums.specs.Tallies.{stretch}
use Rattle.refusal_text.specs.Waits.{longest_below}

-- Of one condition of seconds, which doesn't hold in second 0, the longest run in the seconds 1 to n is one number: the greatest of
-- the series that `sums` adds up, where all seconds count, and what `refusals` tells of the seconds up to n.
abbrev pub LongestRunsAgree : Type 0
LongestRunsAgree = (h : ℕ → Bool) (n : ℕ) → h 0 ≡ false → most_to (since 1 (stretch h 1)) n ≡ longest_below h (suc n)
