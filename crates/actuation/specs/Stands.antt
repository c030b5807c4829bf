-- For which frames and clears the kept numbers stand.
use Rattle.std.specs.Prelude.{◌≡◌, ℕ, ◌+◌, ◌<◌, List, length, unwrap_or}
use Rattle.sig_types.specs.Counts.{Counts, Kind, fronts, rears, count_to}
use Rattle.sig_types.specs.Detectors.{Clear, ClearsUntil, clears_at, occupancy, is_detected}
use Rattle.sig_types.specs.Words.{last_below}
use Rattle.actuation.specs.declared.detector.Detector.{Detector}
use Rattle.actuation.specs.declared.actuation.Actuation.{Actuation}
use Rattle.actuation.specs.Detector.{at, occupied_at, detected_at}

-- a detector's fronts or rears up to the last clear, one of the last second included
abbrev pub cleared : Kind → List Counts → List Clear → ℕ → ℕ
cleared kind frames clears d = count_to kind frames d (unwrap_or (last_below (clears_at clears kind d) (length frames + 1)) 0)

-- one clause for each number that is kept of the detector d
pub record DetectorStands (x : Detector) (frames : List Counts) (clears : List Clear) (d : ℕ) : Type 0 where
  pub fronts_are : x.fronts ≡ count_to fronts frames d (length frames)
  pub rears_are : x.rears ≡ count_to rears frames d (length frames)
  pub fronts_cleared_are : x.fronts_cleared ≡ cleared fronts frames clears d
  pub rears_cleared_are : x.rears_cleared ≡ cleared rears frames clears d
  pub occupied_is : occupied_at x (length frames) ≡ occupancy frames d (length frames)
  pub detected_is : detected_at x (length frames) ≡ last_below (is_detected frames d) (length frames + 1)

-- one clause for the seconds and for the detectors, and no clear has a second past the last one
pub record HasTaken (a : Actuation) (frames : List Counts) (clears : List Clear) : Type 0 where
  pub seconds : a.seconds ≡ length frames
  pub each : (p : ℕ) → p < 64 → DetectorStands (at a.detectors p) frames clears (p + 1)
  pub clears_until : ClearsUntil clears (length frames)

-- An actuation stands for these frames and these clears.
unfoldable pub StandsFor : Actuation → List Counts → List Clear → Type 0
StandsFor a frames clears = HasTaken a frames clears
