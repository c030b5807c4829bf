-- The greatest of the first so many numbers.
use Rattle.std.proofs.Common.{◌≡◌, ℕ, zero, suc, ◌+◌, ◌<◌, ◌≤◌, max, arith, sym, inl, inr, ap, ◌∙◌, add-one}
use Rattle.std.proofs.lemmas.Bool.{cases_eq, cases_lt}
use Rattle.sig_response.specs.Bounds.{greatest}
use Rattle.sig_response.specs.Worst.{IsFirstGreatest}

-- each number is at most the greatest
pub greatest_least : (f : ℕ → ℕ) (n i : ℕ) → i < n → f i ≤ greatest f n
greatest_least f zero i lt = absurd (omega arith)
greatest_least f (suc n) i lt = elim (cases_eq i n) [
  | inl same ↦ (let top : f n ≤ greatest f (suc n) = omega arith in rw same top)
  | inr ne ↦ (let rest = greatest_least f n i (omega arith) in omega (arith, rest))
]

-- the greatest is one of the numbers
pub greatest_found : (f : ℕ → ℕ) (n : ℕ) → 1 ≤ n → (i : ℕ) × ((i < n) × (greatest f n ≤ f i))
greatest_found f zero one = absurd (omega arith)
greatest_found f (suc zero) one = (0, (omega arith, omega arith))
greatest_found f (suc (suc n)) one = go (greatest_found f (suc n) (omega arith))
  where
    go : (i : ℕ) × ((i < suc n) × (greatest f (suc n) ≤ f i)) → (i : ℕ) × ((i < suc (suc n)) × (greatest f (suc (suc n)) ≤ f i))
    go (i, found) = elim (cases_lt (greatest f (suc n)) (f (suc n))) [
      | inl last ↦ (suc n, (omega arith, omega arith))
      | inr before ↦ (i, (omega (arith, found.0), omega (arith, found.1)))
    ]

-- the first place with the greatest number, where one place more has a greater one, and where it has none
pub first_is_next : (f : ℕ → ℕ) (n place : ℕ) → IsFirstGreatest f n place → f place < f n → IsFirstGreatest f (n + 1) n
first_is_next f n place was more = record {
  inside = omega arith;
  most = (let most = was.most in let top : f n ≡ max (greatest f n) (f n) = omega (arith, most, more) in
      top ∙ ap (λ k. greatest f k) (sym (add-one n)));
  first = λ lower lt. (let least = greatest_least f n lower lt in let most = was.most in omega (arith, least, most, more));
}

pub first_stays_first : (f : ℕ → ℕ) (n place : ℕ) → IsFirstGreatest f n place → f n ≤ f place → IsFirstGreatest f (n + 1) place
first_stays_first f n place was less = record {
  inside = omega (arith, was.inside);
  most = (let most = was.most in let top : f place ≡ max (greatest f n) (f n) = omega (arith, most, less) in
      top ∙ ap (λ k. greatest f k) (sym (add-one n)));
  first = was.first;
}
