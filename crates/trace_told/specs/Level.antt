-- How many brackets may stand open.
use Rattle.std.specs.Prelude.{ℕ, ◌≤◌}
use Rattle.trace_told.specs.declared.brackets.Where.{Where}
use Rattle.trace_told.specs.declared.brackets.Where.TheVariants.{Outside, Behind, Inside}

-- at most as many brackets are open as tokens stand before
abbrev pub IsLevel : ℕ → Where → Type 0
IsLevel place Outside = Unit {0}
IsLevel place Behind = Unit {0}
IsLevel place (Inside first others) = others ≤ place
