-- The breaches of a record, part by part.
use Rattle.std.specs.Prelude.{ℕ, List}
use Rattle.std.specs.List.{flat_map}
use Rattle.sig_types.specs.Rules.{Rules}
use Rattle.log_judge.specs.declared.breach.Breach.{Breach}
use Rattle.log_judge.specs.Breaches.{breaches}
use Rattle.tenth_records.specs.Parts.{Part}
use Rattle.log_protocol.specs.Came.{unknown_past}

-- the breaches of a part by these rules, of which the past is not known, with this tolerance; all numbers are in tenths
abbrev pub part_breaches : Rules → ℕ → Part → List Breach
part_breaches rules tolerance part = breaches rules (unknown_past tolerance) part.pictures

-- the breaches of all parts, one after the other
abbrev pub all_breaches : Rules → ℕ → List Part → List Breach
all_breaches rules tolerance parts = flat_map (part_breaches rules tolerance) parts
