-- What every plan of an accepted file keeps.
use Rattle.std.specs.Prelude.{◌≡◌, None}
use Rattle.pua_model.specs.Plan.{IsPlan}
use Rattle.pua_reader.specs.Words.{Text}
use Rattle.pua_reader.specs.Accepted.{refusal_of, plan_of_text}

-- an accepted text is that of a plan, within all its limits
abbrev pub PlansAreWhole : Type 0
PlansAreWhole = (bytes : Text) → refusal_of bytes ≡ None → IsPlan (plan_of_text bytes)
