-- Refusals stay in order.
use Rattle.std.proofs.Common.{◌≡◌, ◌∙◌, ℕ, ◌+◌, ◌<◌, ◌≤◌, List, [], ◌∷◌, ◌++◌, length, get_or, ap, arith, inl, inr, length-append}
use Rattle.std.proofs.Math.Seq.{get_or-append_seam}
use Rattle.std.proofs.lemmas.Bool.{cases_lt}
use Rattle.std.proofs.lemmas.List.{get_or_append_left}
use Rattle.refusal_text.specs.declared.refusal.Refusal.{Refusal}
use Rattle.refusal_text.specs.Order.{AreUpTo}
use Rattle.refusal_text.specs.Words.{second_of}

-- the seconds of a list with one more
at_old : (xs : List Refusal) (x d : Refusal) (i : ℕ) → i < length xs → second_of (get_or (xs ++ x ∷ []) i d) ≡ second_of (get_or xs i d)
at_old xs x d i lt = ap second_of (get_or_append_left xs (x ∷ []) d i lt)

at_new : (xs : List Refusal) (x d : Refusal) (i : ℕ) → i ≡ length xs → second_of (get_or (xs ++ x ∷ []) i d) ≡ second_of x
at_new xs x d i at = ap (λ (k : ℕ). second_of (get_or (xs ++ x ∷ []) k d)) at ∙ ap second_of (get_or-append_seam xs x [] d)

-- one more, in this second
pub order_more : (n : ℕ) (xs : List Refusal) (x : Refusal) → second_of x ≡ n → AreUpTo n xs → AreUpTo n (xs ++ x ∷ [])
order_more n xs x now is =
    let size : length (xs ++ x ∷ []) ≡ length xs + 1 = omega (arith, length-append xs (x ∷ [])) in
    record {
      order = λ i j d e le lt. elim (cases_lt j (length xs)) [
        | inl old ↦ omega (arith, is.order i j d e le old, at_old xs x d i (omega (arith, le, old)), at_old xs x e j old)
        | inr end ↦ (
            let at : j ≡ length xs = omega (arith, lt, end, size) in
            elim (cases_lt i (length xs)) [
              | inl old ↦ omega (arith, is.last i d old, at_old xs x d i old, at_new xs x e j at, now)
              | inr last ↦ omega (arith, at_new xs x d i (omega (arith, le, at, last)), at_new xs x e j at)
            ])
      ];
      last = λ i d lt. elim (cases_lt i (length xs)) [
        | inl old ↦ omega (arith, is.last i d old, at_old xs x d i old)
        | inr end ↦ omega (arith, at_new xs x d i (omega (arith, lt, end, size)), now)
      ];
    }

-- none yet
pub order_none : (n : ℕ) → AreUpTo n []
order_none n = record {
  order = λ i j d e le lt. absurd (omega (arith, lt));
  last = λ i d lt. absurd (omega (arith, lt));
}

-- up to a later second
pub order_later : (n m : ℕ) (xs : List Refusal) → n ≤ m → AreUpTo n xs → AreUpTo m xs
order_later n m xs le is = record {
  order = is.order;
  last = λ i d lt. omega (arith, is.last i d lt, le);
}
