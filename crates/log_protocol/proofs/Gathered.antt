-- What numbers give, one after another.
use Rattle.std.proofs.Common.{◌≡◌, ℕ, zero, suc, ◌+◌, ◌<◌, ◌≤◌, Bool, true, false, List, [], ◌∷◌, ◌++◌, length, refl, arith, add-one}
use Rattle.std.specs.Prelude.{if◌then◌else◌}
use Rattle.std.proofs.Math.ListN.{length-append}
use Rattle.log_protocol.specs.Came.{gather}

pub gather_more : {A : Type 0} (f : ℕ → List A) (n : ℕ) → gather f (n + 1) ≡ gather f n ++ f n
gather_more f n = rw add-one refl

-- two functions that agree below n give the same
pub gather_same : {A : Type 0} (f g : ℕ → List A) (n : ℕ) → ((k : ℕ) → k < n → f k ≡ g k) → gather f n ≡ gather g n
gather_same f g zero same = refl
gather_same f g (suc n) same = rw (gather_same f g n (λ k lt. same k (omega arith)), same n (omega arith)) refl

pub few_if : {A : Type 0} (b : Bool) (x : A) → length (if b then x ∷ [] else []) ≤ 1
few_if true x = omega arith
few_if false x = omega arith

-- where each number gives one at most, there are no more than numbers
pub gather_few : {A : Type 0} (f : ℕ → List A) (n : ℕ) → ((k : ℕ) → length (f k) ≤ 1) → length (gather f n) ≤ n
gather_few f zero few = omega arith
gather_few f (suc n) few = omega (arith, length-append (gather f n) (f n), gather_few f n few, few n)
