-- Frames that are zero outside some places.
use Rattle.std.proofs.Common.{◌≡◌, ◌∙◌, ℕ, zero, suc, ◌<◌, ◌≤◌, ◌⊎◌, length, get_or, replicate, refl, arith, inl, inr, sym}
use Rattle.std.proofs.lemmas.Bool.{cases_lt}
use Rattle.std.proofs.lemmas.List.{ext_get_or}
use Rattle.sig_types.specs.Counts.{Counts, IsZeroOutside}

-- neither fronts nor rears
abbrev pub nothing : ℕ × ℕ
nothing = (0, 0)

-- zeros are zero at each place
pub get_or-zeros : (n p : ℕ) → get_or (replicate n nothing) p nothing ≡ nothing
get_or-zeros zero p = refl
get_or-zeros (suc n) zero = refl
get_or-zeros (suc n) (suc p) = get_or-zeros n p

pub zeros_outside : (low high n : ℕ) → IsZeroOutside low high (replicate n nothing)
zeros_outside low high n = record { before = λ p _. get_or-zeros n p; after = λ p _. get_or-zeros n p }

-- what is zero at each place
pub all_zero : (frame : Counts) → length frame ≡ 64 → ((p : ℕ) → get_or frame p (0, 0) ≡ (0, 0)) → frame ≡ replicate 64 (0, 0)
all_zero frame size each = ext_get_or (0, 0) frame (replicate 64 (0, 0)) size (λ p _. each p ∙ sym (get_or-zeros 64 p))

-- the first places are those of another frame, and in what follows neither has a count
pub first_same : (before after other : Counts) (high high' : ℕ) → high ≤ 16 → high' ≤ 16 →
    ((p : ℕ) → high ≤ p → get_or before p (0, 0) ≡ (0, 0)) → ((p : ℕ) → high' ≤ p → get_or other p (0, 0) ≡ (0, 0)) →
    ((p : ℕ) → p < 16 → get_or after p (0, 0) ≡ get_or other p (0, 0)) → ((p : ℕ) → 16 ≤ p → get_or after p (0, 0) ≡ get_or before p (0, 0)) →
    (p : ℕ) → get_or after p (0, 0) ≡ get_or other p (0, 0)
first_same before after other high high' few few' none none' first rest p = each (cases_lt p 16)
  where
    each : (p < 16) ⊎ (16 ≤ p) → get_or after p (0, 0) ≡ get_or other p (0, 0)
    each (inl lt) = first p lt
    each (inr ge) = rest p ge ∙ none p (omega (arith, ge, few)) ∙ sym (none' p (omega (arith, ge, few')))
