-- What was played, and what the controller made of it.
use Rattle.std.specs.Prelude.{◌≡◌, ℕ, zero, suc, ◌+◌, ◌<◌, ◌≤◌, List, [], length, slice_index, slice_index_or, take}
use Rattle.std.specs.List.{sum_by}
use Rattle.sig_types.specs.Counts.{Counts}
use Rattle.det_board.specs.Passes.{Boarded, Feeding, Ticking, fronts_loads, rears_loads}

-- the fronts, and the rears, of the detector at place d in one frame
abbrev pub fronts_in : ℕ → Counts → ℕ
fronts_in d f = (slice_index_or f d (0, 0)).0

-- the rears of the detector at place d in one frame
abbrev pub rears_in : ℕ → Counts → ℕ
rears_in d f = (slice_index_or f d (0, 0)).1

-- the fronts, and the rears, of the detector at place d in all frames
abbrev pub all_fronts : ℕ → List Counts → ℕ
all_fronts d fs = sum_by (fronts_in d) fs

-- the rears of the detector at place d in all frames
abbrev pub all_rears : ℕ → List Counts → ℕ
all_rears d fs = sum_by (rears_in d) fs

-- the feeder's pass counted what the frames have of its detector
abbrev pub Played : List Counts → Feeding → Feeding → Type 0
Played fs old new =
    new ≡ record { table = old.table; place = old.place; fronts = all_fronts old.place fs; rears = all_rears old.place fs }

-- the value loaded before the one at place j, or 0
abbrev pub before : List ℕ → ℕ → ℕ
before xs zero = 0
before xs (suc j) = slice_index xs j

-- the tick loaded each word once for each of these frames, and the frame at place j is what the values at j exceed those before
pub record Loaded (t : Ticking) (frames : List Counts) : Type 0 where
  pub fronts : (d : ℕ) → d < 64 → length (fronts_loads t d) ≡ length frames
  pub rears : (d : ℕ) → d < 64 → length (rears_loads t d) ≡ length frames
  pub size : (j : ℕ) → j < length frames → length (slice_index_or frames j []) ≡ 64
  pub gains : (j d : ℕ) → j < length frames → d < 64
      → (fronts_in d (slice_index_or frames j []) + before (fronts_loads t d) j ≡ slice_index (fronts_loads t d) j)
      × (rears_in d (slice_index_or frames j []) + before (rears_loads t d) j ≡ slice_index (rears_loads t d) j)
  pub ordered : (j d : ℕ) → j < length frames → d < 64
      → (slice_index (rears_loads t d) j ≤ slice_index (fronts_loads t d) j) × (slice_index (fronts_loads t d) j ≤ 2147483647)

-- each of the first passes counted what the frames have of its detector
abbrev pub ArePlayed : ℕ → List Counts → List Feeding → List Feeding → Type 0
ArePlayed count fs old new = (k : ℕ) (d : Feeding) → k < count → Played fs (slice_index_or old k d) (slice_index_or new k d)

-- the passes of a board's detectors, in order, which have counted nothing
abbrev pub AreFresh : Boarded → List Feeding → Type 0
AreFresh board feeders = (k : ℕ) (d : Feeding) → k < length feeders →
    slice_index_or feeders k d ≡ record { table = board.table; place = k; fronts = 0; rears = 0 }

-- the same of those from the place `first` on
abbrev pub AreFreshFrom : ℕ → Boarded → List Feeding → Type 0
AreFreshFrom first board feeders = (k : ℕ) (d : Feeding) → k < length feeders →
    slice_index_or feeders k d ≡ record { table = board.table; place = first + k; fronts = 0; rears = 0 }

-- in no prefix has a detector more rears than fronts
abbrev pub NeverAhead : List Counts → Type 0
NeverAhead fs = (n d : ℕ) → n ≤ length fs → d < 64 → all_rears d (take n fs) ≤ all_fronts d (take n fs)

-- each event stands in one of the frames
abbrev pub SameSums : List Counts → List Counts → Type 0
SameSums fs gs = (d : ℕ) → d < 64 → (all_fronts d gs ≡ all_fronts d fs) × (all_rears d gs ≡ all_rears d fs)

-- no event stands in two of the frames, and none was added
abbrev pub NoMore : List Counts → List Counts → Type 0
NoMore fs gs = (d : ℕ) → d < 64 → (all_fronts d gs ≤ all_fronts d fs) × (all_rears d gs ≤ all_rears d fs)
