-- The line of a pass's fault.
use Rattle.std.specs.Prelude.{◌≤◌}
use Rattle.sig_types.specs.Limits.{last_line}
use Rattle.sig_types.specs.Pass.{End, Done, Faulted, Logic, Store, Stuck, Unfinished, World}

-- a pass ended without a fault, or with one at a line that a program can have
abbrev pub HasLine : End → Type 0
HasLine (Done s) = Unit {0}
HasLine (Faulted kind line) = line ≤ last_line
HasLine Stuck = Unit {0}
HasLine Unfinished = Unit {0}

-- each pass ends so
abbrev pub HasLines : Logic → Type 0
HasLines logic = (world : World) (s : Store) → HasLine (logic world s)
