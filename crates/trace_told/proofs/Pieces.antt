-- Pieces of a text.
use Rattle.std.proofs.Common.{◌≡◌, ℕ, zero, suc, ◌+◌, ◌-◌, ◌≤◌, List, [], ◌∷◌, ◌++◌, take, drop, refl, ap, arith}

take_none : (n : ℕ) → take {A = ℕ} n [] ≡ []
take_none zero = refl
take_none (suc n) = refl

take_more : (bytes : List ℕ) (at end n : ℕ) → at + n ≡ end → take at bytes ++ take n (drop at bytes) ≡ take end bytes
take_more bytes zero end n e = let same : n ≡ end = omega (arith, e) in ap (λ k. take k bytes) same
take_more [] (suc at) end n e = rw (take_none n, take_none end) refl
take_more (b ∷ bs) (suc at) zero n e = absurd (omega (arith, e))
take_more (b ∷ bs) (suc at) (suc end) n e = ap (λ (l : List ℕ). b ∷ l) (take_more bs at end n (omega (arith, e)))

-- a front and the piece behind it
pub take_on : (bytes : List ℕ) (at end : ℕ) → at ≤ end → take at bytes ++ take (end - at) (drop at bytes) ≡ take end bytes
take_on bytes at end le = take_more bytes at end (end - at) (omega (arith, le))
