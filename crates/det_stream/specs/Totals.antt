-- The counts so far of all detectors.
use Rattle.std.specs.Prelude.{◌≡◌, ℕ, ◌+◌, ◌<◌, ◌≤◌, List, length, slice_index_or, slice_set, Option, nat_lt}
use Rattle.sig_types.specs.Counts.{Counts, fronts, rears, count_to}
use Rattle.sig_types.specs.Words.{least_below}

-- the fronts and rears at a place
abbrev pub counts_at : Counts → ℕ → ℕ × ℕ
counts_at counts p = slice_index_or counts p (0, 0)

-- the counts with these added at that place
abbrev pub with_counts : Counts → ℕ → ℕ × ℕ → Counts
with_counts totals p c = slice_set totals p ((counts_at totals p).0 + c.0, (counts_at totals p).1 + c.1)

-- at most so many fronts and rears of each detector
abbrev pub HasAtMost : ℕ → Counts → Type 0
HasAtMost most counts = (p : ℕ) → p < 64 → ((counts_at counts p).0 ≤ most) × ((counts_at counts p).1 ≤ most)

-- no detector has more rears than fronts
abbrev pub RearsWithinFronts : Counts → Type 0
RearsWithinFronts counts = (p : ℕ) → p < 64 → (counts_at counts p).1 ≤ (counts_at counts p).0

-- no detector without counts in this frame has more rears than fronts
abbrev pub SilentWithinFronts : Counts → Counts → Type 0
SilentWithinFronts frame totals = (p : ℕ) → p < 64 → counts_at frame p ≡ (0, 0) → (counts_at totals p).1 ≤ (counts_at totals p).0

-- these counts and those of a frame, added for each detector
pub record IsSum (old frame new : Counts) : Type 0 where
  pub fronts_are : (p : ℕ) → p < 64 → (counts_at new p).0 ≡ (counts_at old p).0 + (counts_at frame p).0
  pub rears_are : (p : ℕ) → p < 64 → (counts_at new p).1 ≡ (counts_at old p).1 + (counts_at frame p).1

-- the counts so far in these frames
pub record AreTotals (totals : Counts) (frames : List Counts) : Type 0 where
  pub fronts_are : (p : ℕ) → p < 64 → (counts_at totals p).0 ≡ count_to fronts frames (p + 1) (length frames)
  pub rears_are : (p : ℕ) → p < 64 → (counts_at totals p).1 ≡ count_to rears frames (p + 1) (length frames)

-- the least detector, by its place, with more rears than fronts
abbrev pub least_ahead_in : Counts → Option ℕ
least_ahead_in totals = least_below (λ p. nat_lt (counts_at totals p).0 (counts_at totals p).1) 64
