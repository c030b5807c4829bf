-- The detectors of the last part.
use Rattle.std.proofs.Common.{◌≡◌, ◌∙◌, ℕ, zero, suc, ◌-◌, ◌<◌, ◌≤◌, List, [], ◌∷◌, length, get_or, refl, sym, ap, arith}
use Rattle.log_sums.specs.declared.sums.LogSums.{LogSums}
use Rattle.sums_text.specs.Parts.{named_in}

-- the last part by its place
pub named_at : (xs : List LogSums) (n : ℕ) (d : LogSums) → length xs ≡ suc n → named_in xs ≡ (get_or xs n d).detectors
named_at [] n d size = absurd (omega (arith, size))
named_at (x ∷ []) zero d size = refl
named_at (x ∷ []) (suc n) d size = absurd (omega (arith, size))
named_at (x ∷ y ∷ rest) zero d size = absurd (omega (arith, size))
named_at (x ∷ y ∷ rest) (suc n) d size = named_at (y ∷ rest) n d (omega (arith, size))

pub named_last : (xs : List LogSums) (x : LogSums) → 0 < length xs → x ≡ get_or xs (length xs - 1) x → named_in xs ≡ x.detectors
named_last xs x some is = named_at xs (length xs - 1) x (omega (arith, some)) ∙ ap (λ (y : LogSums). y.detectors) (sym is)

-- no part
pub none_left : (xs : List LogSums) → length xs ≤ 0 → xs ≡ []
none_left [] few = refl
none_left (x ∷ xs) few = absurd (omega (arith, few))
