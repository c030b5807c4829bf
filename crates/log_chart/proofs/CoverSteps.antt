-- Detectors in a second more.
use Rattle.std.proofs.Common.{◌≡◌, ◌∙◌, ℕ, ◌+◌, ◌<◌, ◌≤◌, Bool, List, [], ◌∷◌, ◌++◌, inl, inr, length, get_or, refl, arith}
use Rattle.std.specs.Prelude.{max, nat_lt}
use Rattle.std.proofs.lemmas.Bool.{cases_lt}
use Rattle.std.proofs.lemmas.List.{get_or_append_left}
use Rattle.std.proofs.Math.Seq.{get_or-append_seam}
use Rattle.log_chart.specs.declared.cover.Cover.{Cover}
use Rattle.log_sums.specs.Detectors.{occupied}
use Rattle.log_chart.specs.Covers.{AreCounts, IsCover}

-- counts tell whether a detector is covered
pub occupied_next : (f r : ℕ → ℕ) (n : ℕ) (c : Cover) → AreCounts f r n c → occupied f r n ≡ nat_lt c.rears c.fronts
occupied_next f r n c are = rw (are.fronts_are, are.rears_are) refl

-- a detector before the first second
pub cover_none : (f r : ℕ → ℕ) (from : ℕ) (c : Cover) → 1 ≤ from → c.fronts ≡ 0 → c.rears ≡ 0 → c.spans.items ≡ [] → IsCover f r from 0 c
cover_none f r from c least no_fronts no_rears none =
    let past : max from (0 + 1) ≡ from = omega (arith, least) in
    record {
      counts_are = record { fronts_are = no_fronts; rears_are = no_rears; fronts_fit = omega (arith, no_fronts); rears_fit = omega (arith, no_rears) };
      spans_are = rw (past, none) record {
        each = λ i d lt. absurd (omega arith);
        covers = λ t le lt. absurd (omega arith);
        rises = λ i j d lt inside. absurd (omega arith);
      };
    }

-- what holds of each item, with one item more
pub covers_more : (P : Cover → Type 0) (xs : List Cover) (x : Cover) (n p : ℕ) (d : Cover) → length xs ≡ n →
    ((q : ℕ) (e : Cover) → q < n → P (get_or xs q e)) → P x → p < n + 1 → P (get_or (xs ++ x ∷ []) p d)
covers_more P xs x n p d size each here lt = elim (cases_lt p n) [
  | inl old ↦ rw (get_or_append_left xs (x ∷ []) d p (omega (arith, size, old))) (each p d old)
  | inr new ↦ (
      let last : p ≡ length xs = omega (arith, size, new, lt) in
      rw (last, get_or-append_seam xs x [] d) here)
]
