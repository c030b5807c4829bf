-- The lines in which a detector has counts.
use Rattle.std.specs.Prelude.{◌≡◌, ℕ, zero, suc, ◌+◌, ◌*◌, ◌/◌, ◌%◌, ◌<◌, Bool, not, ◌&&◌, ◌==◌, if◌then◌else◌, List, [], ◌∷◌, ◌++◌, length, map, filter, slice_index_or}
use Rattle.std.specs.List.{All}
use Rattle.sig_types.specs.Counts.{Counts}
use Rattle.det_stream.specs.declared.busy.BusyLine.{BusyLine}

-- whether there is a front or a rear
abbrev pub is_busy : ℕ × ℕ → Bool
is_busy c = not (c.0 == 0 && c.1 == 0)

-- the counts of the detector at place d, in the order of the frames, without those that are (0, 0)
abbrev pub busy_counts : ℕ → List Counts → List (ℕ × ℕ)
busy_counts d frames = filter is_busy (map (λ f. slice_index_or f d (0, 0)) frames)

-- the number of a busy line, from 0
unfoldable pub line_number : BusyLine → ℕ
line_number b = 65536 * b.high + b.low

-- the busy line with this number and these counts
unfoldable pub busy_line : ℕ → ℕ × ℕ → BusyLine
busy_line n counts = record { high = n / 65536; low = n % 65536; counts = counts }

-- the counts in a line, by the lines that have some
abbrev pub counts_in_line : ℕ → List BusyLine → ℕ × ℕ
counts_in_line n [] = (0, 0)
counts_in_line n (b ∷ bs) = if line_number b == n then b.counts else counts_in_line n bs

-- the frame of a line, by the busy lines of each detector
abbrev pub frame_of_line : ℕ → List (List BusyLine) → Counts
frame_of_line n detectors = map (counts_in_line n) detectors

-- the frames of the first lines
unfoldable pub frames_of : List (List BusyLine) → ℕ → List Counts
frames_of detectors zero = []
frames_of detectors (suc n) = frames_of detectors n ++ frame_of_line n detectors ∷ []

-- a line is kept where it has counts
abbrev pub line_kept : ℕ → ℕ × ℕ → List BusyLine
line_kept n counts = if is_busy counts then busy_line n counts ∷ [] else []

-- 64 detectors of which no line is kept
pub record AreSilent (detectors : List (List BusyLine)) : Type 0 where
  pub size : length detectors ≡ 64
  pub none : (d : ℕ) → d < 64 → slice_index_or detectors d [] ≡ []

-- the line of a frame was kept behind those before it, for each of 64 detectors
pub record KeepsLine (n : ℕ) (frame : Counts) (old new : List (List BusyLine)) : Type 0 where
  pub size : length new ≡ 64
  pub each : (d : ℕ) → d < 64 → slice_index_or new d [] ≡ slice_index_or old d [] ++ line_kept n (slice_index_or frame d (0, 0))

-- the first n lines are kept of 64 detectors
pub record AreKept (n : ℕ) (detectors : List (List BusyLine)) : Type 0 where
  pub size : length detectors ≡ 64
  pub before : (d : ℕ) → d < 64 → All (λ b. line_number b < n) (slice_index_or detectors d [])
  pub counts : (d : ℕ) → d < 64 → map (λ b. b.counts) (slice_index_or detectors d []) ≡ busy_counts d (frames_of detectors n)
