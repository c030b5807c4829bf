-- One wait more in a list of them.
use Rattle.std.proofs.Common.{◌≡◌, ◌∙◌, ◌≢◌, ◌+◌, ◌<◌, ℕ, Bool, true, false, List, Option, nat_lt, length, get_or, set, get_or-set_other, get_or-set_same, refl, sym, ap, subst, arith}
use Rattle.std.proofs.lemmas.Bool.{ltb-false, ltb-true}
use Rattle.sig_types.specs.Rules.{Rules}
use Rattle.sig_types.specs.Turns.{History}
use Rattle.sig_guard.specs.Waits.{IsWait}
use Rattle.junction_calls.specs.Masked.{wait_number}

-- this number tells how long the turn of a group has to wait
abbrev pub IsToldWait : Rules → History → ℕ → ℕ → Type 0
IsToldWait site h g number = (wait : Option ℕ) × IsWait site h g wait × (number ≡ wait_number wait)

pub one_wait_more : (site : Rules) (h : History) (waits : List ℕ) (at g number : ℕ) (wait : Option ℕ) → at ≡ g → g < length waits → IsWait site h g wait →
    number ≡ wait_number wait → ((p : ℕ) → p < g → IsToldWait site h p (get_or waits p 0)) →
    (p : ℕ) → p < g + 1 → IsToldWait site h p (get_or (set waits at number) p 0)
one_wait_more site h waits at g number wait at_is inside is told before p lt = go (nat_lt p g) refl
  where
    go : (b : Bool) → nat_lt p g ≡ b → IsToldWait site h p (get_or (set waits at number) p 0)
    go true test =
        let below : p < g = ltb-true p g test in
        let other : p ≢ at = λ same. (omega (arith, below, at_is, same)) in
        subst (IsToldWait site h p) (sym (get_or-set_other waits at p number 0 other)) (before p below)
    go false test =
        let same : g ≡ p = omega (arith, lt, ltb-false p g test) in
        let here : at < length waits = omega (arith, inside, at_is) in
        subst (λ q. IsToldWait site h q (get_or (set waits at number) q 0)) same
        (wait, is, ap (λ k. get_or (set waits at number) k 0) (sym at_is) ∙ get_or-set_same waits at number 0 here ∙ told)
