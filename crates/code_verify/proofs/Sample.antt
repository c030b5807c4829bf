-- Small runs, computed.
use Rattle.std.proofs.Common.{◌≡◌, ℕ, zero, suc, ◌+◌, ◌*◌, ◌≤◌, List, [], ◌∷◌, refl, ◌∙◌, arith}
use Rattle.std.specs.Prelude.{pos, negsuc, Ok, Err}
use Rattle.sig_types.specs.Number.{quotient}
use Rattle.sig_types.specs.declared.kinds.FaultKind.TheVariants.{Budget, Overflow, ZeroDivisor}
use Rattle.sig_types.specs.Pass.{Store as StoreOf, World, unit_limit, Faulted}
use Rattle.vap_code.specs.declared.Instr.{Instr}
use Rattle.vap_code.specs.declared.Instr.TheVariants.{Tick, Push, Load, Store, Div, Jump, Call, Ret}
use Rattle.vap_code.specs.Machine.{State, exec, steps_of, first_state, step_limit}

abbrev loop : List Instr
loop = Tick 1 ∷ Jump 0 ∷ []

-- before the tick of the loop
abbrev at_tick : ℕ → ℕ → StoreOf → State
at_tick line units s = record { place = 0; operands = []; noted = []; line = line; units = units; store = s }

loop_ends : (w : World) (s : StoreOf) (units k line : ℕ) → 2 * units + 1 ≤ k → exec loop (0 ∷ []) w k (at_tick line units s) ≡ Faulted Budget 1
loop_ends w s units zero line h = absurd (omega arith)
loop_ends w s zero (suc k) line h = refl
loop_ends w s (suc units) (suc zero) line h = absurd (omega arith)
loop_ends w s (suc units) (suc (suc k)) line h = loop_ends w s units k 1 (omega arith)

loop_counts : (w : World) (s : StoreOf) (units k line : ℕ) → 2 * units + 1 ≤ k → steps_of loop (0 ∷ []) w k (at_tick line units s) ≡ 2 * units + 1
loop_counts w s units zero line h = absurd (omega arith)
loop_counts w s zero (suc k) line h = refl
loop_counts w s (suc units) (suc zero) line h = absurd (omega arith)
loop_counts w s (suc units) (suc (suc k)) line h = omega (arith, loop_counts w s units k 1 (omega arith))

-- a pass of the loop ends in a fault at its line, after 20,001 instructions
pass_ends : (w : World) (s : StoreOf) → exec loop (0 ∷ []) w step_limit (first_state (0 ∷ []) unit_limit s) ≡ Faulted Budget 1
unfolding step_limit unit_limit
pass_ends w s = loop_ends w s unit_limit step_limit 0 (omega arith)

pass_counts : (w : World) (s : StoreOf) → steps_of loop (0 ∷ []) w step_limit (first_state (0 ∷ []) unit_limit s) ≡ 20001
unfolding step_limit unit_limit
pass_counts w s = loop_counts w s unit_limit step_limit 0 (omega arith) ∙ omega arith

abbrev empty : StoreOf
empty = record { variables = pos 7 ∷ []; arrays = []; timers = []; commands = [] }

-- a fault after a call has the line of the tick spent last
called : (w : World) → exec (Tick 9 ∷ Push (pos 5) ∷ Store 0 ∷ Ret ∷ Tick 1 ∷ Call 0 ∷ Tick 1 ∷ Tick 2 ∷ Load 0 ∷ Push (pos 0) ∷ Div ∷ Store 0 ∷ Ret
    ∷ []) (0 ∷ 4 ∷ []) w 100 (first_state (0 ∷ 4 ∷ []) 10 empty) ≡ Faulted ZeroDivisor 2
called w = refl

-- quotients are cut toward zero
cut : quotient (negsuc 6) (pos 2) ≡ Ok (negsuc 2)
cut = refl

no_divisor : quotient (pos 1) (pos 0) ≡ Err ZeroDivisor
no_divisor = refl

least_by_minus_one : quotient (negsuc 2147483647) (negsuc 0) ≡ Err Overflow
least_by_minus_one = refl
