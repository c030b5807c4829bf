-- The passes of a program: how they end, and the stores that they begin with.
use Rattle.std.specs.Prelude.{◌≡◌, ℕ, List, [], length, map, replicate, pos, false}
use Rattle.sig_types.specs.Pass.{Store, unit_limit, End, Logic}
use Rattle.sig_types.specs.Pass as pass
use Rattle.vap_ast.specs.Syntax.{Array}
use Rattle.vap_ast.specs.Names.{Source}
use Rattle.vap_ast.specs.Mean.{Outcome, Done, Faulted, mean}

-- how a pass ends, without the units that are left
abbrev pub ending : Outcome → End
ending (Done s units) = pass.Done s
ending (Faulted kind line) = pass.Faulted kind line

-- what a program does in a pass: its main routine, from the first item on
abbrev pub program_logic : Source → Logic
program_logic source world s = ending (mean source world source.main source.main s unit_limit)

-- a store with these numbers of variables and timers and with the cells of these arrays, in which no command has been given
pub record FitsProgram (variable_count timer_count : ℕ) (declared : List Array) (s : Store) : Type 0 where
  pub variables : length s.variables ≡ variable_count
  pub timers : length s.timers ≡ timer_count
  pub arrays : map length s.arrays ≡ map (λ a. length a.values) declared
  pub no_commands : s.commands ≡ []

-- the store before the first pass: variables 0, arrays as they are declared, timers stopped at 0
abbrev pub first_store : (variable_count timer_count : ℕ) → List Array → Store
first_store variable_count timer_count declared =
    record {
      variables = replicate variable_count (pos 0);
      arrays = map (λ a. a.values) declared;
      timers = replicate timer_count record { count = 0; runs = false };
      commands = [];
    }
