-- Two neighbouring parts are one part.
use Rattle.std.proofs.Common.{◌≡◌, ℕ, zero, suc, ◌+◌, ◌<◌, ◌≤◌, ◌==◌, if◌then◌else◌, refl, ap, arith, inl, inr}
use Rattle.std.proofs.lemmas.Bool.{cases_lt, le-leb, lt-leb}
use Rattle.log_sums.specs.Series.{count_to, since, sum_to}
use Rattle.laws.specs.NeighbouringParts.{NeighboursAddUp}

-- whether a second counts
abbrev one_of : ℕ → ℕ
one_of n = if n == 0 then 0 else 1

module _ (f : ℕ → ℕ) where
  -- a second from the first one on has its number
  pub since_is : (m t : ℕ) → m ≤ t → since m f t ≡ f t
  since_is m t le = rw (le-leb m t le) refl

  -- one before it has none
  since_none : (m t : ℕ) → t < m → since m f t ≡ 0
  since_none m t lt = rw (lt-leb m t lt) refl

  sum_none : (m n : ℕ) → n < m → sum_to (since m f) n ≡ 0
  sum_none m zero lt = refl
  sum_none m (suc n) lt = λ j. sum_none m n (omega (arith, lt)) j + since_none m (suc n) lt j

  count_none : (m n : ℕ) → n < m → count_to (since m f) n ≡ 0
  count_none m zero lt = refl
  count_none m (suc n) lt = λ j. count_none m n (omega (arith, lt)) j + one_of (since_none m (suc n) lt j)

  -- whatever adds up second by second
  adds : (total : ℕ → ℕ → ℕ) (each : ℕ → ℕ) → ((m n : ℕ) → n < m → total m n ≡ 0) → ((m n : ℕ) → m ≤ suc n → total m (suc n) ≡ total m n + each n) →
      (a b c : ℕ) → a ≤ b + 1 → b ≤ c → total a b + total (b + 1) c ≡ total a c
  adds total each none step a b c some le = by c le
    where
      by : (c : ℕ) → b ≤ c → total a b + total (b + 1) c ≡ total a c
      by zero le =
          let same : b ≡ 0 = omega (arith, le) in
          let here : total a b ≡ total a 0 = ap (total a) same in
          omega (arith, none (b + 1) 0 (omega arith), here)
      by (suc c) le = elim (cases_lt c b) [
        | inl before ↦
            let same : b ≡ suc c = omega (arith, before, le) in
            let here : total a b ≡ total a (suc c) = ap (total a) same in
            omega (arith, none (b + 1) (suc c) (omega (arith, before)), here)
        | inr within ↦
            omega (arith, by c within, step a c (omega (arith, some, within)), step (b + 1) c (omega (arith, within)))
      ]

  pub sums_add : (a b c : ℕ) → a ≤ b + 1 → b ≤ c → sum_to (since a f) b + sum_to (since (b + 1) f) c ≡ sum_to (since a f) c
  sums_add =
      adds (λ m n. sum_to (since m f) n) (λ n. f (suc n)) sum_none (λ m n le. ap (λ k. sum_to (since m f) n + k) (since_is m (suc n) le))

  pub counts_add : (a b c : ℕ) → a ≤ b + 1 → b ≤ c → count_to (since a f) b + count_to (since (b + 1) f) c ≡ count_to (since a f) c
  counts_add =
      adds (λ m n. count_to (since m f) n) (λ n. one_of (f (suc n))) count_none
      (λ m n le. ap (λ k. count_to (since m f) n + one_of k) (since_is m (suc n) le))

pub neighbours_add_up : NeighboursAddUp
neighbours_add_up f a b c some le = (sums_add f a b c some le, counts_add f a b c some le)
