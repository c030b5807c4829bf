-- The variables and the timers of a program: their names, and their values after a second.
use Rattle.std.specs.Prelude.{◌≡◌, ◌≤◌, ◌⊎◌, ◌++◌, ◌∷◌, [], ℕ, ℤ, List, length, Option, Some, None, Ok, Err}
use Rattle.std.specs.List.{slice_get, flat_map}
use Rattle.vap_ast.specs.Syntax.{Program}
use Rattle.vap_check.specs.Names.{timers, variables}
use Rattle.controller.specs.Controls.{StandsFor}
use Rattle.controller.specs.Past.{Past}
use Rattle.controller.specs.declared.controller.Controller.{Controller}
use Rattle.junction_run.specs.Programs.{ProgramIs}
use Rattle.sig_types.specs.declared.numbers.Clock.{Clock}
use Rattle.junction_calls.specs.declared.variables.NamesOf.{NamesOf}
use Rattle.junction_calls.specs.declared.variables.NamesOf.TheVariants as of
use Rattle.junction_calls.specs.Copied.{IsCopied}

-- the names of a program's variables, or of its timers, in the order of their numbers
abbrev pub names_in : NamesOf → Program → List (List ℕ)
names_in of.Variables p = variables p
names_in of.Timers p = timers p

-- these names, each with a line feed behind it
abbrev pub names_text : NamesOf → Program → List ℕ
names_text of p = flat_map (λ name. name ++ 10 ∷ []) (names_in of p)

-- What is answered of a program's names. 0: they are copied, as much as fits, and their whole length is told. 5: the text is no
-- program, or too long for one. 1: memory was wanted.
pub data AreNamesTold (of : NamesOf) (bytes old new : List ℕ) (before told : ℕ) : ℕ → Type 0 where
  named : (p : Program) → ProgramIs bytes (Ok p) → IsCopied (names_text of p) old new → told ≡ length (names_text of p) →
      AreNamesTold of bytes old new before told 0
  no_program : (at : ℕ × List ℕ) → ProgramIs bytes (Err at) → new ≡ old → told ≡ before → AreNamesTold of bytes old new before told 5
  too_long : 1048577 ≤ length bytes → new ≡ old → told ≡ before → AreNamesTold of bytes old new before told 5
  no_memory : new ≡ old → told ≡ before → AreNamesTold of bytes old new before told 1

-- What is answered of a variable's value. 0: the variable of that number has this value after the last second. 4: there is none of
-- that number, or nothing is held.
abbrev pub IsValueTold : Option Controller → ℕ → ℕ → ℤ → ℤ → Type 0
IsValueTold None number n before value = (n ≡ 4) × (value ≡ before)
IsValueTold (Some c) number n before value =
    (past : Past) → StandsFor c past →
    ((n ≡ 0) × (slice_get past.store.variables number ≡ Some value))
    ⊎ ((n ≡ 4) × (length past.store.variables ≤ number) × (value ≡ before))

-- What is answered of a timer. 0: the timer of that number counted so many seconds up to the last second. 4: there is none of that
-- number, or nothing is held.
abbrev pub IsCountTold : Option Controller → ℕ → ℕ → ℕ → ℕ → Type 0
IsCountTold None number n before count = (n ≡ 4) × (count ≡ before)
IsCountTold (Some c) number n before count =
    (past : Past) → StandsFor c past →
    ((timer : Clock) × (n ≡ 0) × (slice_get past.store.timers number ≡ Some timer) × (count ≡ timer.count))
    ⊎ ((n ≡ 4) × (length past.store.timers ≤ number) × (count ≡ before))
