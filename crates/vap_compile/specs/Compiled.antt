-- What the code of a checked program has to do with the program.
use Rattle.std.specs.Prelude.{◌≡◌, [], ◌∷◌, ◌++◌, map}
use Rattle.sig_types.specs.Pass.{Store, World}
use Rattle.vap_ast.specs.Names.{Source}
use Rattle.vap_ast.specs.Tree.{program_of}
use Rattle.vap_check.specs.Numbers.{Meant}
use Rattle.vap_check.specs.Passes.{FitsChecked, logic_of, source_in}
use Rattle.vap_code.specs.Codes.{CodeOf}
use Rattle.vap_code.specs.Machine.{machine}
use Rattle.vap_compile.specs.Layout.{routines_code, routine_starts}

-- the instructions of a program's routines, the main one last, and the places at which they begin
pub record IsCodeOf (source : Source) (code : CodeOf) : Type 0 where
  pub instrs : code.instrs ≡ routines_code source.names 0 (source.subs ++ source.main ∷ [])
  pub starts : code.starts ≡ routine_starts 0 (source.subs ++ source.main ∷ [])

-- the program's numbers of variables and timers, and arrays that begin with its declared values
pub record HasNumbersOf (m : Meant) (code : CodeOf) : Type 0 where
  pub variables : code.vars ≡ m.variables
  pub timers : code.timers ≡ m.timers
  pub arrays : code.arrays ≡ map (λ a. a.values) (program_of m.tree).arrays

-- a checked program as it is laid out: its instructions, and its numbers
pub record IsLaidOut (m : Meant) (code : CodeOf) : Type 0 where
  pub layout : IsCodeOf (source_in m) code
  pub numbers : HasNumbersOf m code

-- For every world and every store that fits the program, a pass of the code ends as the pass of the program does: the
-- same end, the same fault at the same line, the same commands, variables, arrays and timers.
abbrev pub MeansProgram : Meant → CodeOf → Type 0
MeansProgram m code =
    (world : World) (s : Store) → FitsChecked m s → machine code world s ≡ logic_of m world s
