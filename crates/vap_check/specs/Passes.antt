-- The passes of a checked program, and the stores that they begin with.
use Rattle.sig_types.specs.Pass.{Store, Logic}
use Rattle.vap_ast.specs.Names.{Source}
use Rattle.vap_ast.specs.Passes.{program_logic, FitsProgram, first_store}
use Rattle.vap_ast.specs.Sound.{source_of}
use Rattle.vap_ast.specs.Tree.{program_of}
use Rattle.vap_check.specs.Numbers.{Meant}

-- the routines of a checked program, with what its names are
abbrev pub source_in : Meant → Source
source_in m = source_of (program_of m.tree) m.names

-- what a checked program does in a pass
abbrev pub logic_of : Meant → Logic
logic_of m = program_logic (source_in m)

-- a store with the program's variables, timers and arrays, in which no command has been given
abbrev pub FitsChecked : Meant → Store → Type 0
FitsChecked m s = FitsProgram m.variables m.timers (program_of m.tree).arrays s

-- the store before the first pass of a checked program
abbrev pub first_store_of : Meant → Store
first_store_of m = first_store m.variables m.timers (program_of m.tree).arrays
