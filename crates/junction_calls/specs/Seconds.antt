-- A second of a controller, on counts in plain numbers.
use Rattle.std.specs.Prelude.{◌≡◌, ◌↔◌, ◌⊎◌, ℕ, IsTrue, Bool, true, false, Option, Some, None}
use Rattle.sig_types.specs.Counts.{Counts, Takes}
use Rattle.controller.specs.Controls.{StandsFor, last_record, logic_of, site_of}
use Rattle.controller.specs.Past.{Past}
use Rattle.controller.specs.Second.{record_of, past_after_second}
use Rattle.controller.specs.declared.controller.Controller.{Controller}
use Rattle.junction_calls.specs.declared.counts.DetectorCounts.{DetectorCounts}
use Rattle.junction_calls.specs.declared.told.Told.{Told}
use Rattle.junction_calls.specs.Numbers.{IsFrame, IsTold}

-- The counts are taken exactly where a run takes their frame. Then the controller stands for the past that is longer by the
-- second of this frame, whose record is told; else it is as it was,
-- and nothing is told. Its site and what decides it stay.
pub record IsSecond (counts : DetectorCounts) (c : Controller) (past : Past) (taken : Bool) (d : Controller) (before told : Told) : Type 0 where
  pub frame : Counts
  pub counted : IsFrame counts frame
  pub takes : IsTrue taken ↔ Takes past.frames frame
  pub stands : taken ≡ true → StandsFor d (past_after_second (logic_of c) (site_of c) past frame)
  pub last : taken ≡ true → last_record d ≡ record_of (logic_of c) (site_of c) past frame
  pub tells : taken ≡ true → IsTold (record_of (logic_of c) (site_of c) past frame) told
  pub site : site_of d ≡ site_of c
  pub logic : logic_of d ≡ logic_of c
  pub still : taken ≡ false → (d ≡ c) × (told ≡ before)

-- What a call answers that makes a second of what a handle held. 0: the second was made. 3: its counts are not taken. 4: nothing
-- was held.
abbrev pub IsSecondMade : ℕ → DetectorCounts → Option Controller → Option Controller → Told → Told → Type 0
IsSecondMade n counts held now before told =
    ((n ≡ 4) × (held ≡ None) × (now ≡ None) × (told ≡ before))
    ⊎ (c : Controller) × (d : Controller) × (held ≡ Some c) × (now ≡ Some d)
    × (((n ≡ 0) × ((past : Past) → StandsFor c past → IsSecond counts c past true d before told))
    ⊎ ((n ≡ 3) × ((past : Past) → StandsFor c past → IsSecond counts c past false d before told)))
