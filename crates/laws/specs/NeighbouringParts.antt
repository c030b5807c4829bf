-- What neighbouring parts of a log add up to.
use Rattle.std.specs.Prelude.{◌≡◌, ◌≤◌, ◌+◌, ℕ}
use Rattle.log_sums.specs.Series.{count_to, since, sum_to}

-- Of a series of which one part has the seconds a to b and the next one those behind b up to c, the two sums add up to that of the
-- seconds a to c, and so do the two counts: so the sums and counts of the parts of `sums --each` add up to those of the whole.
abbrev pub NeighboursAddUp : Type 0
NeighboursAddUp =
    (f : ℕ → ℕ) (a b c : ℕ) → a ≤ b + 1 → b ≤ c →
    (sum_to (since a f) b + sum_to (since (b + 1) f) c ≡ sum_to (since a f) c)
    × (count_to (since a f) b + count_to (since (b + 1) f) c ≡ count_to (since a f) c)
