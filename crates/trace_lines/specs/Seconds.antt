-- What is seen in the seconds of a run.
use Rattle.std.specs.Prelude.{List, [], ◌∷◌}
use Rattle.sig_types.specs.Counts.{Counts}
use Rattle.vap_code.specs.Codes.{CodeOf}
use Rattle.vap_code.specs.Machine.{machine}
use Rattle.vap_code.specs.Sights.{Sight}
use Rattle.controller.specs.Past.{Site, Past}
use Rattle.controller.specs.Second.{past_after_second}
use Rattle.controller.specs.Seen.{sights_in}

-- what is seen in each of the seconds after a past with these frames
abbrev pub sights_by : CodeOf → Site → Past → List Counts → List (List Sight)
sights_by code site past [] = []
sights_by code site past (f ∷ fs) =
    sights_in code site past f ∷ sights_by code site (past_after_second (machine code) site past f) fs
