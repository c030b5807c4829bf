-- The frames of a live run have counts of 32 bits.
use Rattle.std.proofs.Common.{◌≡◌, ℕ, zero, suc, ◌+◌, ◌-◌, ◌*◌, ◌<◌, ◌≤◌, List, [], ◌∷◌, length, get_or, arith}
use Rattle.std.specs.List.{sum_by}
use Rattle.std.proofs.lemmas.List.Elements.{All-from_get_or}
use Rattle.std.proofs.lemmas.List.Sums.{sum_by-cons}
use Rattle.sig_types.specs.Counts.{AreFrames, Counts, count_in, fronts, rears}
use Rattle.signal_log.specs.Laws.{ArePrintable}
use Rattle.junction_live.specs.Play.{SameSums, all_fronts, all_rears, fronts_in, rears_in}
use Rattle.report_seen.proofs.CountsBack.{IsCount}
use Rattle.laws.specs.RunLogs.{AreLoggable, IsLoggable}

-- one of the summands is at most the sum
part_of : (h : Counts → ℕ) (fs : List Counts) (n : ℕ) → n < length fs → h (get_or fs n []) ≤ sum_by h fs
part_of h [] n lt = absurd (omega arith)
part_of h (f ∷ fs) zero lt = omega (arith, sum_by-cons h f fs)
part_of h (f ∷ fs) (suc n) lt = omega (arith, sum_by-cons h f fs, part_of h fs n (omega (arith, lt)))

-- a sum of counts that are at most 99
sum_few : (h : Counts → ℕ) (fs : List Counts) → ((n : ℕ) → n < length fs → h (get_or fs n []) ≤ 99) → sum_by h fs ≤ 99 * length fs
sum_few h [] each = omega arith
sum_few h (f ∷ fs) each =
    omega (arith, sum_by-cons h f fs, each 0 (omega arith), sum_few h fs (λ n lt. each (suc n) (omega (arith, lt))))

sizes : (made : List Counts) → ArePrintable made → (n : ℕ) → n < length made → length (get_or made n []) ≡ 64
sizes [] are n lt = absurd (omega arith)
sizes (f ∷ made) are zero lt = are.0.entries
sizes (f ∷ made) are (suc n) lt = sizes made are.1 n (omega (arith, lt))

module _ (frames : List Counts) (are : AreFrames frames) where
  few_fronts : (d : ℕ) → d < 64 → all_fronts d frames ≤ 99 * length frames
  few_fronts d low = sum_few (fronts_in d) frames (λ n lt.
      let place : d + 1 - 1 ≡ d = omega arith in
      let front : count_in fronts (d + 1) (get_or frames n []) ≤ 99 = are.fronts_fit n (d + 1) lt (omega arith) (omega (arith, low)) in
      rw place at front)

  few_rears : (d : ℕ) → d < 64 → all_rears d frames ≤ 99 * length frames
  few_rears d low = sum_few (rears_in d) frames (λ n lt.
      let place : d + 1 - 1 ≡ d = omega arith in
      let rear : count_in rears (d + 1) (get_or frames n []) ≤ 99 = are.rears_fit n (d + 1) lt (omega arith) (omega (arith, low)) in
      rw place at rear)

  module _ (made : List Counts) (same : SameSums frames made) (printable : ArePrintable made) where
    made_fits : (n d : ℕ) → n < length made → d < 64 →
        (fronts_in d (get_or made n []) ≤ 99 * 604800) × (rears_in d (get_or made n []) ≤ 99 * 604800)
    made_fits n d lt low = (
      omega (arith, part_of (fronts_in d) made n lt, (same d low).0, few_fronts d low, are.few),
      omega (arith, part_of (rears_in d) made n lt, (same d low).1, few_rears d low, are.few),
    )

    made_loggable : (n : ℕ) → n < length made → IsLoggable (get_or made n [])
    made_loggable n lt =
        let size : length (get_or made n []) ≡ 64 = sizes made printable n lt in
        record {
          size = size;
          counts = All-from_get_or IsCount (get_or made n []) (0, 0) (λ d inside.
              let fits = made_fits n d lt (omega (arith, inside, size)) in (omega (arith, fits.0), omega (arith, fits.1)));
        }

    pub live_frames_loggable : length made ≡ length frames + 1 → AreLoggable made
    live_frames_loggable count =
        record { few = omega (arith, count, are.few); frames_are = All-from_get_or IsLoggable made [] (λ n lt. made_loggable n lt) }
