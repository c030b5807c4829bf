-- Which programs are accepted, and how the others are refused.
use Rattle.std.specs.Prelude.{◌≡◌, ℕ, ◌+◌, ◌<◌, ◌≤◌, nat_lt, List, [], ◌∷◌, length, flat_map, if◌then◌else◌, Option, None, Some}
use Rattle.sig_types.specs.Limits.{most_instrs, most_variables, most_timers, most_arrays, most_cells, most_subroutines, most_labels}
use Rattle.vap_ast.specs.Syntax.{Items, Program}
use Rattle.vap_ast.specs.Sizes.{items_size}
use Rattle.vap_check.specs.declared.refusal.CheckRefusal.{CheckRefusal}
use Rattle.vap_check.specs.declared.refusal.CheckRefusal.TheVariants.{Memory, At}
use Rattle.vap_check.specs.declared.refusal.CheckWhy.{CheckWhy}
use Rattle.vap_check.specs.declared.refusal.CheckWhy.TheVariants.{Limit, ProgramTooLong}
use Rattle.vap_check.specs.declared.refusal.Which.{Which}
use Rattle.vap_check.specs.declared.refusal.Which.TheVariants.{Variables, Timers, Arrays, Cells, Subroutines, Labels}
use Rattle.vap_check.specs.FirstFinding.{IsFirst}
use Rattle.vap_check.specs.Names.{bodies, variables, timers, items_labels}
use Rattle.vap_check.specs.Findings.{findings}

-- the cells of all arrays
abbrev pub cells : Program → ℕ
cells p = length (flat_map (λ a. a.values) p.arrays)

-- the labels of all routines
abbrev pub labels : Program → ℕ
labels p = length (flat_map items_labels (bodies p))

-- what a program has too many of: the first that passes its limit
abbrev pub passed : Program → Option Which
passed p =
    if nat_lt most_variables (length (variables p)) then Some Variables
    else if nat_lt most_timers (length (timers p)) then Some Timers
    else if nat_lt most_arrays (length p.arrays) then Some Arrays
    else if nat_lt most_cells (cells p) then Some Cells
    else if nat_lt most_subroutines (length p.subs) then Some Subroutines
    else if nat_lt most_labels (labels p) then Some Labels
    else None

-- the size of routines: one more than that of their statements
abbrev pub bodies_size : List Items → ℕ
bodies_size [] = 0
bodies_size (body ∷ others) = items_size body + 1 + bodies_size others

-- how many instructions a program takes
abbrev pub program_size : Program → ℕ
program_size p = bodies_size (bodies p)

-- nothing is wrong with a program, it has too many of nothing, and it isn't too long
pub record Accepted (p : Program) : Type 0 where
  pub clean : findings p ≡ []
  pub few : passed p ≡ None
  pub short : program_size p ≤ most_instrs

-- the first refusal of a program: what is wrong in the first line, and there for the first reason; where nothing is wrong
-- the first limit that is passed; where none is the size
pub data Refuses (p : Program) : ℕ → CheckWhy → Type 0 where
  wrong : (line : ℕ) (why : CheckWhy) → IsFirst (findings p) (record { line = line; why = why }) → Refuses p line why
  many : (which : Which) → findings p ≡ [] → passed p ≡ Some which → Refuses p 0 (Limit which)
  long : findings p ≡ [] → passed p ≡ None → most_instrs < program_size p → Refuses p 0 ProgramTooLong

-- a refusal is right: it is want of memory, or the first of a program
abbrev pub IsRefused : Program → CheckRefusal → Type 0
IsRefused p Memory = Unit {0}
IsRefused p (At line why) = Refuses p line why
