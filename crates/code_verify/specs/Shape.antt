-- The parts of a code's shape.
use Rattle.std.specs.Prelude.{◌≡◌, ℕ, ◌≤◌, ◌<◌, ℤ, List, length, map, sum, IsTrue}
use Rattle.std.specs.List.{All}
use Rattle.sig_types.specs.Limits.{most_instrs, most_routines, most_variables, most_timers, most_arrays, most_array_cells, most_cells}
use Rattle.sig_types.specs.Pass.{at}
use Rattle.vap_code.specs.Codes.{CodeOf}
use Rattle.vap_code.specs.Valid.{rise}

-- the numbers of instructions, routines, variables and timers
pub record CountsFit (code : CodeOf) : Type 0 where
  pub instrs : length code.instrs ≤ most_instrs
  pub routines : length code.starts ≤ most_routines
  pub variables : code.vars ≤ most_variables
  pub timers : code.timers ≤ most_timers

-- the arrays, and their cells
pub record ArraysFit (arrays : List (List ℤ)) : Type 0 where
  pub at_most : length arrays ≤ most_arrays
  pub cells : All (λ a. (1 ≤ length a) × (length a ≤ most_array_cells)) arrays
  pub all_cells : sum (map length arrays) ≤ most_cells

-- the starts of the routines
pub record StartsFit (starts : List ℕ) (all : ℕ) : Type 0 where
  pub first : at starts 0 1 ≡ 0
  pub rising : IsTrue (rise starts)
  pub inside : (k : ℕ) → k < length starts → at starts k 0 < all
