-- What choosing values by words answers.
use Rattle.std.specs.Prelude.{◌≡◌, ℕ, ◌<◌, List, length, slice_index_or, [], Result, Ok, Err, Vec}
use Rattle.std.specs.declared.alloc.Global.{Global}
use Rattle.vap_ast.specs.Syntax.{Program}
use Rattle.trace_told.specs.declared.choice.NoChoice.{NoChoice}
use Rattle.trace_told.specs.declared.choice.NoChoice.TheVariants.{Memory, Unknown}
use Rattle.trace_told.specs.declared.columns.Column.{Column}
use Rattle.trace_told.specs.Columns.{IsUnknown, NamesSome, chosen_by}

-- the values that words choose, each of which names some, or the first word that names none; or memory was wanted
abbrev pub IsChoice : Program → List Column → List (List ℕ) → Result (Vec Column Global) NoChoice → Type 0
IsChoice p columns words (Ok chosen) =
    (chosen.items ≡ chosen_by p columns words) × ((k : ℕ) → k < length words → NamesSome p columns (slice_index_or words k []))
IsChoice p columns words (Err Memory) = Unit {0}
IsChoice p columns words (Err (Unknown place)) = IsUnknown p columns words place
