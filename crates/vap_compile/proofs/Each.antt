-- What holds of each instruction along a part of a code, by its place.
use Rattle.std.proofs.Common.{◌≡◌, ℕ, zero, suc, ◌+◌, ◌<◌, ◌≤◌, List, [], ◌∷◌, ◌++◌, length, get_or, sym, subst, arith}
use Rattle.vap_code.specs.declared.Instr.{Instr}
use Rattle.vap_code.specs.declared.Instr.TheVariants.{Ret}

abbrev pub Each : (ℕ → Instr → Type 0) → ℕ → List Instr → Type 0
Each P p [] = Unit {0}
Each P p (i ∷ is) = P p i × Each P (p + 1) is

pub each_on : (P : ℕ → Instr → Type 0) (p : ℕ) (a b : List Instr) → Each P p a → Each P (p + length a) b
    → Each P p (a ++ b)
each_on P p [] b e f = let n : p + 0 ≡ p = omega arith in subst (λ q. Each P q b) n f
each_on P p (i ∷ a) b e f =
    let n : p + length (i ∷ a) ≡ p + 1 + length a = omega arith in
    (e.0, each_on P (p + 1) a b e.1 (subst (λ q. Each P q b) n f))

-- where the first part has this length
pub each_join : (P : ℕ → Instr → Type 0) (p n : ℕ) (a b : List Instr) → length a ≡ n → Each P p a
    → Each P (p + n) b → Each P p (a ++ b)
each_join P p n a b e f g = each_on P p a b f (subst (λ k. Each P (p + k) b) (sym e) g)

-- at another spelling of the place
pub each_from : (P : ℕ → Instr → Type 0) (p q : ℕ) (is : List Instr) → p ≡ q → Each P p is → Each P q is
each_from P p q is e f = subst (λ n. Each P n is) e f

pub each_at : (P : ℕ → Instr → Type 0) (p : ℕ) (is : List Instr) (k : ℕ) → Each P p is → k < length is
    → P (p + k) (get_or is k Ret)
each_at P p [] k e lt = absurd (omega arith)
each_at P p (i ∷ is) zero e lt = let n : p ≡ p + zero = omega arith in subst (λ q. P q i) n e.0
each_at P p (i ∷ is) (suc k) e lt =
    let n : p + 1 + k ≡ p + suc k = omega arith in subst (λ q. P q (get_or is k Ret)) n
    (each_at P (p + 1) is k e.1 (omega arith))

-- what holds of each holds of each so weakened
pub each_map : (P Q : ℕ → Instr → Type 0) (low high p : ℕ) (is : List Instr)
    → ((q : ℕ) (i : Instr) → low ≤ q → q < high → P q i → Q q i) → low ≤ p → p + length is ≤ high
    → Each P p is → Each Q p is
each_map P Q low high p [] f a b e = tt
each_map P Q low high p (i ∷ is) f a b e =
    (f p i a (omega arith) e.0, each_map P Q low high (p + 1) is f (omega arith) (omega arith) e.1)

pub each_both : (P Q : ℕ → Instr → Type 0) (p : ℕ) (is : List Instr) → Each P p is → Each Q p is
    → Each (λ q i. P q i × Q q i) p is
each_both P Q p [] e f = tt
each_both P Q p (i ∷ is) e f = ((e.0, f.0), each_both P Q (p + 1) is e.1 f.1)
