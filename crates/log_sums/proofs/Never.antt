-- What never comes.
use Rattle.std.proofs.Common.{◌≡◌, ℕ, zero, suc, ◌≤◌, Bool, true, false, refl, sym, arith}
use Rattle.std.specs.Prelude.{nat_le, if◌then◌else◌}
use Rattle.log_sums.specs.Series.{AreFigures, AreLongFigures, count_to, first_most, least_to, most_to, since, sum_to}
use Rattle.log_sums.specs.Spells.{begins, held, run}
use Rattle.log_sums.specs.Tallies.{came, stretch}

-- nothing is to be counted in the seconds 1 to n
abbrev pub IsNever : (ℕ → ℕ) → ℕ → Type 0
IsNever f n = (t : ℕ) → 1 ≤ t → t ≤ n → f t ≡ 0

count_never : (f : ℕ → ℕ) (n : ℕ) → IsNever f n → count_to f n ≡ 0
count_never f zero never = refl
count_never f (suc n) never =
    let here : f (suc n) ≡ 0 = never (suc n) (omega arith) (omega arith) in
    let below = count_never f n (λ t some most. never t some (omega (arith, most))) in
    rw (here, below) refl

sum_never : (f : ℕ → ℕ) (n : ℕ) → IsNever f n → sum_to f n ≡ 0
sum_never f zero never = refl
sum_never f (suc n) never =
    let here : f (suc n) ≡ 0 = never (suc n) (omega arith) (omega arith) in
    let below = sum_never f n (λ t some most. never t some (omega (arith, most))) in
    omega (arith, here, below)

least_never : (f : ℕ → ℕ) (n : ℕ) → IsNever f n → least_to f n ≡ 0
least_never f zero never = refl
least_never f (suc n) never =
    let here : f (suc n) ≡ 0 = never (suc n) (omega arith) (omega arith) in
    let below = least_never f n (λ t some most. never t some (omega (arith, most))) in
    rw (below, here) refl

most_never : (f : ℕ → ℕ) (n : ℕ) → IsNever f n → most_to f n ≡ 0
most_never f zero never = refl
most_never f (suc n) never =
    let here : f (suc n) ≡ 0 = never (suc n) (omega arith) (omega arith) in
    let below = most_never f n (λ t some most. never t some (omega (arith, most))) in
    omega (arith, here, below)

first_never : (f : ℕ → ℕ) (n : ℕ) → IsNever f n → first_most f n ≡ 0
first_never f zero never = refl
first_never f (suc n) never =
    let here : f (suc n) ≡ 0 = never (suc n) (omega arith) (omega arith) in
    let most = most_never f n (λ t some most. never t some (omega (arith, most))) in
    let below = first_never f n (λ t some most. never t some (omega (arith, most))) in
    rw (here, most, below) refl

pub never_figures : (f : ℕ → ℕ) (n : ℕ) → IsNever f n → AreFigures f n (record { count = 0; sum = 0; least = 0; most = 0; at = 0 })
never_figures f n never = record {
  count = sym (count_never f n never);
  sum = sym (sum_never f n never);
  least = sym (least_never f n never);
  most = sym (most_never f n never);
  at = sym (first_never f n never);
  few = omega arith;
  small = omega arith;
}

pub never_long_figures : (f : ℕ → ℕ) (n : ℕ) → IsNever f n → AreLongFigures f n (record { count = 0; sum = 0; least = 0; most = 0 })
never_long_figures f n never = record {
  count = sym (count_never f n never);
  sum = sym (sum_never f n never);
  least = sym (least_never f n never);
  most = sym (most_never f n never);
  few = omega arith;
}

zero_both : (b : Bool) (x : ℕ) → x ≡ 0 → (if b then x else 0) ≡ 0
zero_both true x e = e
zero_both false x e = refl

-- nothing is to be counted from a second on either
pub since_never : (from : ℕ) (f : ℕ → ℕ) (n : ℕ) → IsNever f n → IsNever (since from f) n
since_never from f n never t some most = zero_both (nat_le from t) (f t) (never t some most)

pub came_not : (c : ℕ → ℕ) (t : ℕ) → c t ≡ 0 → came c t ≡ false
came_not c t e = rw e refl

run_not : (h : ℕ → Bool) (t : ℕ) → h t ≡ false → 1 ≤ t → run h t ≡ 0
run_not h zero e some = absurd (omega (arith, some))
run_not h (suc t) e some = rw e refl

begins_not : (h : ℕ → Bool) (t : ℕ) → h t ≡ false → begins h t ≡ false
begins_not h zero e = refl
begins_not h (suc t) e = rw e refl

held_not : (h : ℕ → Bool) (t : ℕ) → h t ≡ false → held h t ≡ 0
held_not h t e = rw e refl

-- no run of what never came
pub run_never : (c : ℕ → ℕ) (n : ℕ) → IsNever c n → run (came c) n ≡ 0
run_never c zero never = refl
run_never c (suc n) never = run_not (came c) (suc n) (came_not c (suc n) (never (suc n) (omega arith) (omega arith))) (omega arith)

pub begun_never : (c : ℕ → ℕ) (n : ℕ) → IsNever c n → IsNever (held (begins (came c))) n
begun_never c n never t some most = held_not (begins (came c)) t (begins_not (came c) t (came_not c t (never t some most)))

pub stretch_never : (c : ℕ → ℕ) (from n : ℕ) → IsNever c n → IsNever (stretch (came c) from) n
stretch_never c from n never t some most =
    let none : run (came c) t ≡ 0 = run_not (came c) t (came_not c t (never t some most)) some in
    omega (arith, none)
