-- The most that a code may have of each thing.
use Rattle.std.specs.Prelude.{ℕ}

-- instructions
abbrev pub most_instrs : ℕ
most_instrs = 65535

-- routines, the main one among them
abbrev pub most_routines : ℕ
most_routines = 65

-- subroutines
abbrev pub most_subroutines : ℕ
most_subroutines = 64

-- variables
abbrev pub most_variables : ℕ
most_variables = 256

-- timers
abbrev pub most_timers : ℕ
most_timers = 64

-- arrays
abbrev pub most_arrays : ℕ
most_arrays = 32

-- cells of one array
abbrev pub most_array_cells : ℕ
most_array_cells = 1024

-- cells of all arrays together
abbrev pub most_cells : ℕ
most_cells = 4096

-- labels
abbrev pub most_labels : ℕ
most_labels = 4096

-- the last line that a program can have
abbrev pub last_line : ℕ
last_line = 1048577
