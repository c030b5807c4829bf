-- A second more.
use Rattle.std.proofs.Common.{◌≡◌, ◌∙◌, ℕ, zero, suc, ◌+◌, ◌-◌, ◌≤◌, Bool, true, false, refl, sym, subst, arith, add-one}
use Rattle.std.specs.Prelude.{◌==◌, ◌&&◌, if◌then◌else◌}
use Rattle.log_sums.specs.ServeSums.{served, served_by, waited, waiting}
use Rattle.log_sums.specs.Series.{sum_to}
use Rattle.log_sums.specs.Spells.{begins, gap, last_to, over, run}

-- the second after n
pub after : (n second : ℕ) → second ≡ n + 1 → suc n ≡ second
after n second next = sym (next ∙ add-one n)

pub sum_next : (f : ℕ → ℕ) (n second : ℕ) → second ≡ n + 1 → sum_to f second ≡ sum_to f n + f second
sum_next f n second next = subst (λ s. sum_to f s ≡ sum_to f n + f s) (after n second next) refl

pub run_next : (h : ℕ → Bool) (n second : ℕ) → second ≡ n + 1 → run h second ≡ (if h second then run h n + 1 else 0)
run_next h n second next = subst (λ s. run h s ≡ (if h s then run h n + 1 else 0)) (after n second next) refl

pub begins_next : (h : ℕ → Bool) (n second : ℕ) → second ≡ n + 1 → begins h second ≡ (h second && (run h n == 0))
begins_next h n second next = subst (λ s. begins h s ≡ (h s && (run h n == 0))) (after n second next) refl

pub over_next : (h : ℕ → Bool) (n second : ℕ) → second ≡ n + 1 → over h second ≡ (if h second then 0 else run h n)
over_next h n second next = subst (λ s. over h s ≡ (if h s then 0 else run h n)) (after n second next) refl

pub last_next : (h : ℕ → Bool) (n second : ℕ) → second ≡ n + 1 → last_to h second ≡ (if h second then second else last_to h n)
last_next h n second next = subst (λ s. last_to h s ≡ (if h s then s else last_to h n)) (after n second next) refl

pub gap_next : (h : ℕ → Bool) (n second : ℕ) → second ≡ n + 1 →
    gap h second ≡ (if h second then (if last_to h n == 0 then 0 else second - last_to h n) else 0)
gap_next h n second next =
    subst (λ s. gap h s ≡ (if h s then (if last_to h n == 0 then 0 else s - last_to h n) else 0)) (after n second next) refl

step_most : (b : Bool) (r n : ℕ) → r ≤ n → (if b then r + 1 else 0) ≤ n + 1
step_most true r n most = omega arith
step_most false r n most = omega arith

-- a condition holds in no more seconds than there are
pub run_most : (h : ℕ → Bool) (n : ℕ) → run h n ≤ n
run_most h zero = omega arith
run_most h (suc n) = let step = step_most (h (suc n)) (run h n) n (run_most h n) in omega (arith, step, add-one n)

pub served_next : (h : ℕ → Bool) (f : ℕ → ℕ) (n second : ℕ) → second ≡ n + 1 →
    served h f second ≡ (if h second then served h f n + f second else 0)
served_next h f n second next = subst (λ s. served h f s ≡ (if h s then served h f n + f s else 0)) (after n second next) refl

pub served_by_next : (h : ℕ → Bool) (f : ℕ → ℕ) (n second : ℕ) → second ≡ n + 1 →
    served_by h f second ≡ (if h second then 0 else (if run h n == 0 then 0 else served h f n + 1))
served_by_next h f n second next =
    subst (λ s. served_by h f s ≡ (if h s then 0 else (if run h n == 0 then 0 else served h f n + 1))) (after n second next) refl

pub waiting_next : (h : ℕ → Bool) (f : ℕ → ℕ) (n second : ℕ) → second ≡ n + 1 →
    waiting h f second ≡ (if h second then 0 else (if waiting h f n == 0 then (if f second == 0 then 0 else 1) else waiting h f n + 1))
waiting_next h f n second next =
    subst (λ s. waiting h f s ≡ (if h s then 0 else (if waiting h f n == 0 then (if f s == 0 then 0 else 1) else waiting h f n + 1)))
    (after n second next) refl

pub waited_next : (h : ℕ → Bool) (f : ℕ → ℕ) (n second : ℕ) → second ≡ n + 1 → waited h f second ≡ (if h second then waiting h f n else 0)
waited_next h f n second next = subst (λ s. waited h f s ≡ (if h s then waiting h f n else 0)) (after n second next) refl

wait_most : (b c d : Bool) (w n : ℕ) → w ≤ n → (if b then 0 else (if c then (if d then 0 else 1) else w + 1)) ≤ n + 1
wait_most true c d w n most = omega arith
wait_most false true true w n most = omega arith
wait_most false true false w n most = omega arith
wait_most false false d w n most = omega arith

-- nobody waits for more seconds than there are
pub waiting_most : (h : ℕ → Bool) (f : ℕ → ℕ) (n : ℕ) → waiting h f n ≤ n
waiting_most h f zero = omega arith
waiting_most h f (suc n) =
    let step = wait_most (h (suc n)) (waiting h f n == 0) (f (suc n) == 0) (waiting h f n) n (waiting_most h f n) in omega (arith, step, add-one n)
