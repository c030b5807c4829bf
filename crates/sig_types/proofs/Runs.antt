-- How long a run of numbers that pass a test is: looked for from above, and as it grows by one.
use Rattle.std.proofs.Common.{◌≡◌, ◌∙◌, ℕ, ◌+◌, ◌-◌, ◌<◌, ◌≤◌, Bool, true, false, not, Option, None, Some, refl, ap, sym, arith}
use Rattle.sig_types.specs.Words.{last_below, run_from, run_to}
use Rattle.sig_types.proofs.LastBelow.{last_below-agree, last_below-at, last_below-before, last_below-here, last_below-less, last_below-never}

-- the number before t doesn't pass, and all from t on do
pub run_broken : (p : ℕ → Bool) (n t : ℕ) → 0 < t → t ≤ n → p (t - 1) ≡ false → ((j : ℕ) → t ≤ j → j < n → p j ≡ true) →
    n - t ≡ run_to p (n - 1)
run_broken p n t some le here after =
    let same : n - 1 + 1 ≡ n = omega arith in
    let last : last_below (λ j. not (p j)) n ≡ Some (t - 1) =
    last_below-at (λ j. not (p j)) n (t - 1) (ap not here) (omega arith) (λ j lo hi. ap not (after j (omega arith) hi)) in
    rw (same, last) (omega arith)

-- all numbers pass
pub run_whole : (p : ℕ → Bool) (n : ℕ) → 1 ≤ n → ((j : ℕ) → j < n → p j ≡ true) → n ≡ run_to p (n - 1)
run_whole p n some all =
    let same : n - 1 + 1 ≡ n = omega arith in
    let none : last_below (λ j. not (p j)) n ≡ None = last_below-never (λ j. not (p j)) n (λ j lt. ap not (all j lt)) in
    rw (same, none) (sym same)

from_more : (q : ℕ → Bool) (k : ℕ) (o : Option ℕ) → last_below q (k + 1) ≡ o → run_from (k + 1) o ≡ run_from k o + 1
from_more q k None is = refl
from_more q k (Some j) is =
    let below = last_below-less q (k + 1) j is in
    let e : k + 1 - j ≡ k - j + 1 = omega (arith, below) in e

-- a run goes on
pub run_more : (p : ℕ → Bool) (k : ℕ) → p (k + 1) ≡ true → run_to p (k + 1) ≡ run_to p k + 1
run_more p k here =
    ap (λ o. run_from (k + 1) o) (last_below-before (λ j. not (p j)) (k + 1) (ap not here))
    ∙ from_more (λ j. not (p j)) k (last_below (λ j. not (p j)) (k + 1)) refl

-- a run is over
pub run_over : (p : ℕ → Bool) (k : ℕ) → p (k + 1) ≡ false → run_to p (k + 1) ≡ 0
run_over p k here =
    let e : k + 1 - (k + 1) ≡ 0 = omega arith in
    ap (λ o. run_from (k + 1) o) (last_below-here (λ j. not (p j)) (k + 1) (ap not here)) ∙ e

-- two tests that agree up to k have runs of one length there
pub run_same : (p q : ℕ → Bool) (k : ℕ) → ((j : ℕ) → j ≤ k → p j ≡ q j) → run_to p k ≡ run_to q k
run_same p q k agree =
    ap (λ o. run_from k o)
    (last_below-agree (λ j. not (p j)) (λ j. not (q j)) (k + 1) (λ j lt. ap not (agree j (omega (arith, lt)))))
