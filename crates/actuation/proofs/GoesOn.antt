-- How what is kept of a detector goes on by one second.
use Rattle.std.proofs.Common.{◌≡◌, ◌∙◌, ℕ, ◌+◌, ◌-◌, ◌≤◌, ◌==◌, ◌&&◌, ◌||◌, Bool, true, false, Some, None, nat_lt, if◌then◌else◌, refl, sym, ap, inl, inr, arith}
use Rattle.std.proofs.lemmas.Bool.{cases_Bool, and_parts, eqb-true, ne_eqb}
use Rattle.actuation.specs.declared.detector.Detector.{Detector}
use Rattle.actuation.specs.Detector.{is_on, moved, advanced, occupied_at, detected_at, not_zero, IsSized}

-- y is x after second k + 1, which had these counts
pub record GoesOn (x y : Detector) (c : ℕ × ℕ) (k : ℕ) : Type 0 where
  pub fronts : y.fronts ≡ x.fronts + c.0
  pub rears : y.rears ≡ x.rears + c.1
  pub fronts_cleared : y.fronts_cleared ≡ x.fronts_cleared
  pub rears_cleared : y.rears_cleared ≡ x.rears_cleared
  pub occupied : occupied_at y (k + 1) ≡ (if nat_lt (x.rears + c.1) (x.fronts + c.0) then occupied_at x k + 1 else 0)
  pub detected : detected_at y (k + 1) ≡ (if nat_lt (x.rears + c.1) (x.fronts + c.0) || nat_lt 0 c.0 then Some (k + 1) else detected_at x k)

some_next : (k : ℕ) → not_zero (k + 1) ≡ Some (k + 1)
some_next k = ap (λ b. if b then None else Some (k + 1)) (ne_eqb (k + 1) 0 (λ e. omega (arith, e)))

some_before : (k : ℕ) → 1 ≤ k → not_zero (k + 1 - 1) ≡ Some k
some_before k some =
    let back : k + 1 - 1 ≡ k = omega arith in
    ap not_zero back ∙ ap (λ b. if b then None else Some k) (ne_eqb k 0 (λ e. omega (arith, e)))

occupied_more : (was is : Bool) (s k : ℕ) → (was ≡ true → s ≤ k) →
    (if is then k + 1 + 1 - (if was then s else k + 1) else 0) ≡ (if is then (if was then k + 1 - s else 0) + 1 else 0)
occupied_more true true s k le = let le' = le refl in let e : k + 1 + 1 - s ≡ k + 1 - s + 1 = omega (arith, le') in e
occupied_more false true s k le = let e : k + 1 + 1 - (k + 1) ≡ 0 + 1 = omega arith in e
occupied_more was false s k le = refl

detected_more : (was is front : Bool) (last k : ℕ) → (was ≡ true → 1 ≤ k) →
    (if is then Some (k + 1) else not_zero (if is || front then k + 1 else if was then k + 1 - 1 else last))
    ≡ (if is || front then Some (k + 1) else if was then Some k else not_zero last)
detected_more was true front last k some = refl
detected_more was false true last k some = some_next k
detected_more true false false last k some = some_before k (some refl)
detected_more false false false last k some = refl

moved_goes_on : (x : Detector) (c : ℕ × ℕ) (k : ℕ) → IsSized k x → GoesOn x (moved x c (k + 1)) c k
moved_goes_on x c k is = record {
  fronts = refl;
  rears = refl;
  fronts_cleared = refl;
  rears_cleared = refl;
  occupied = occupied_more (is_on x) (nat_lt (x.rears + c.1) (x.fronts + c.0)) x.occupied_since k (λ on. is.since);
  detected = detected_more (is_on x) (nat_lt (x.rears + c.1) (x.fronts + c.0)) (nat_lt 0 c.0) x.last_detected k
      (λ on. let begun = is.begun on in omega (arith, begun, is.since));
}

occupied_on : (was : Bool) (s k : ℕ) → s ≤ k →
    (if was then k + 1 + 1 - s else 0) ≡ (if was then (if was then k + 1 - s else 0) + 1 else 0)
occupied_on true s k le = let e : k + 1 + 1 - s ≡ k + 1 - s + 1 = omega (arith, le) in e
occupied_on false s k le = refl

detected_on : (was : Bool) (last k : ℕ) →
    (if was then Some (k + 1) else not_zero last) ≡ (if was || false then Some (k + 1) else if was then Some k else not_zero last)
detected_on true last k = refl
detected_on false last k = refl

silent_goes_on : (x : Detector) (c : ℕ × ℕ) (k : ℕ) → IsSized k x → c.0 ≡ 0 → c.1 ≡ 0 → GoesOn x x c k
silent_goes_on x c k is f r = record {
  fronts = no_fronts;
  rears = no_rears;
  fronts_cleared = refl;
  rears_cleared = refl;
  occupied = occupied_on (is_on x) x.occupied_since k is.since ∙ ap (λ b. if b then occupied_at x k + 1 else 0) same;
  detected = detected_on (is_on x) x.last_detected k ∙ (λ i. if (same i || none i) then Some (k + 1) else detected_at x k);
}
  where
    no_fronts : x.fronts ≡ x.fronts + c.0
    no_fronts = omega (arith, f)

    no_rears : x.rears ≡ x.rears + c.1
    no_rears = omega (arith, r)

    same : is_on x ≡ nat_lt (x.rears + c.1) (x.fronts + c.0)
    same = λ i. nat_lt (no_rears i) (no_fronts i)

    none : false ≡ nat_lt 0 c.0
    none = ap (λ n. nat_lt 0 n) (sym f)

pub goes_on : (x : Detector) (c : ℕ × ℕ) (k : ℕ) → IsSized k x → GoesOn x (advanced x c (k + 1)) c k
goes_on x c k is = elim (cases_Bool (c.0 == 0 && c.1 == 0)) [
  | inl e ↦ (let parts = and_parts _ _ e in
      rw e (silent_goes_on x c k is (eqb-true c.0 0 parts.0) (eqb-true c.1 0 parts.1)))
  | inr e ↦ rw e (moved_goes_on x c k is)
]

begun_next : (was : Bool) (s k : ℕ) → (was ≡ true → 1 ≤ s) → 1 ≤ (if was then s else k + 1)
begun_next true s k h = h refl
begun_next false s k h = omega arith

since_next : (was : Bool) (s k : ℕ) → s ≤ k → (if was then s else k + 1) ≤ k + 1
since_next true s k h = omega (arith, h)
since_next false s k h = omega arith

-- and its numbers fit
pub sized_next : (k : ℕ) (x : Detector) (c : ℕ × ℕ) → IsSized k x → x.rears + c.1 ≤ x.fronts + c.0 → x.fronts + c.0 ≤ 2147483647 →
    IsSized (k + 1) (advanced x c (k + 1))
sized_next k x c is within at_most = elim (cases_Bool (c.0 == 0 && c.1 == 0)) [
  | inl e ↦ rw e (record { within = is.within; at_most = is.at_most; since = omega (arith, is.since); begun = is.begun })
  | inr e ↦ rw e (record {
    within = within;
    at_most = at_most;
    since = since_next (is_on x) x.occupied_since k is.since;
    begun = λ on. begun_next (is_on x) x.occupied_since k is.begun;
  })
]
