-- The counts of detectors, second by second.
use Rattle.std.specs.Prelude.{◌≡◌, ℕ, ◌+◌, ◌-◌, ◌<◌, ◌≤◌, List, [], ◌∷◌, ◌++◌, length, take, sum_by, slice_index_or}

-- one frame: the fronts and the rears of detectors 1 to 64 in a second; place p is detector p + 1
abbrev pub Counts : Type 0
Counts = List (ℕ × ℕ)

-- the two counts of a detector
pub data Kind : Type 0 where
  fronts : Kind
  rears : Kind

-- the fronts or the rears of a pair
abbrev pub count_of : Kind → ℕ × ℕ → ℕ
count_of fronts c = c.0
count_of rears c = c.1

-- a detector's fronts or rears in one frame
abbrev pub count_in : Kind → ℕ → Counts → ℕ
count_in kind d frame = count_of kind (slice_index_or frame (d - 1) (0, 0))

-- a detector's fronts or rears in seconds 1 to j; place j of a list of frames is second j + 1
abbrev pub count_to : Kind → List Counts → ℕ → ℕ → ℕ
count_to kind frames d j = sum_by (count_in kind d) (take j frames)

-- no detector has a front or a rear at a place below the first of these or from the second on
pub record IsZeroOutside (low high : ℕ) (frame : Counts) : Type 0 where
  pub before : (p : ℕ) → p < low → slice_index_or frame p (0, 0) ≡ (0, 0)
  pub after : (p : ℕ) → high ≤ p → slice_index_or frame p (0, 0) ≡ (0, 0)

-- A further frame can be taken: fewer than 604,801 seconds were made, and with it each detector's rears so far are at most
-- its fronts so far, and these at most 2,147,483,647.
pub record Takes (frames : List Counts) (frame : Counts) : Type 0 where
  pub few : length frames < 604801
  pub size : length frame ≡ 64
  pub counts : (d : ℕ) → 1 ≤ d → d ≤ 64 →
      (count_to rears (frames ++ frame ∷ []) d (length frames + 1) ≤ count_to fronts (frames ++ frame ∷ []) d (length frames + 1))
      × (count_to fronts (frames ++ frame ∷ []) d (length frames + 1) ≤ 2147483647)

-- Frames as a detector file has them: at most 604,800 of 64 pairs, counts of at most 99, and after each frame each detector's
-- rears so far are at most its fronts so far.
pub record AreFrames (frames : List Counts) : Type 0 where
  pub few : length frames ≤ 604800
  pub sizes : (n : ℕ) → n < length frames → length (slice_index_or frames n []) ≡ 64
  pub fronts_fit : (n d : ℕ) → n < length frames → 1 ≤ d → d ≤ 64 → count_in fronts d (slice_index_or frames n []) ≤ 99
  pub rears_fit : (n d : ℕ) → n < length frames → 1 ≤ d → d ≤ 64 → count_in rears d (slice_index_or frames n []) ≤ 99
  pub behind : (n d : ℕ) → n ≤ length frames → 1 ≤ d → d ≤ 64 → count_to rears frames d n ≤ count_to fronts frames d n
