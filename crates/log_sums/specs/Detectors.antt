-- What the seconds of a detector add up to. It has fronts and rears in each second from 1 on.
use Rattle.std.specs.Prelude.{◌≡◌, ℕ, ◌*◌, ◌≤◌, ◌==◌, nat_lt, Bool, not, ◌||◌}
use Rattle.log_sums.specs.declared.detector.DetectorSums.{DetectorSums}
use Rattle.log_sums.specs.Series.{AreFigures, since, sum_to}
use Rattle.log_sums.specs.Spells.{AreGaps, AreSpells}

-- it is occupied at the end of second t: the fronts so far are more than the rears so far
abbrev pub occupied : (fronts rears : ℕ → ℕ) → ℕ → Bool
occupied fronts rears t = nat_lt (sum_to rears t) (sum_to fronts t)

-- it has a detection in second t: a front, or it is occupied
abbrev pub detected : (fronts rears : ℕ → ℕ) → ℕ → Bool
detected fronts rears t = not (fronts t == 0) || occupied fronts rears t

-- Its fronts, the seconds in which it is occupied, and the gaps between those with a detection, counted from second `from` on. What
-- is so far is counted from second 1 on.
pub record AreDetectorSums (fronts rears : ℕ → ℕ) (from n : ℕ) (x : DetectorSums) : Type 0 where
  pub fronts_are : AreFigures (since from fronts) n x.fronts
  pub fronts_so_far : x.fronts_so_far ≡ sum_to fronts n
  pub rears_so_far : x.rears_so_far ≡ sum_to rears n
  pub fronts_fit : x.fronts_so_far ≤ n * 4294967296
  pub rears_fit : x.rears_so_far ≤ n * 4294967296
  pub occupied_are : AreSpells (occupied fronts rears) from n x.occupied
  pub detected_are : AreGaps (detected fronts rears) from n x.detected
