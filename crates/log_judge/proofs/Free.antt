-- When a start is cleared of all intergreens.
use Rattle.std.proofs.Common.{◌≡◌, ◌∙◌, ℕ, zero, suc, ◌+◌, ◌-◌, ◌<◌, ◌≤◌, Bool, true, false, ◌||◌, Option, Some, None, is_some, if◌then◌else◌, nat_lt, length, refl, arith, sym, ap, inl, inr}
use Rattle.std.proofs.lemmas.Bool.{cases_lt, lt-ltb, le-ltb, ltb-true, ltb-false}
use Rattle.sig_types.specs.Rules.{Rules}
use Rattle.sig_types.specs.Turns.{History, trace, ends_at}
use Rattle.sig_types.specs.Words.{last_below, least_below, or_here}
use Rattle.sig_types.proofs.LastBelow.{last_below-at}
use Rattle.sig_guard.specs.Step.{natural_picture, is_uncleared}
use Rattle.sig_guard.proofs.SecondMore.{is_close, close_to_none}
use Rattle.log_judge.specs.Past.{last_end}
use Rattle.log_judge.specs.Refused.{HasSize, still}
use Rattle.log_judge.specs.Explained.{lacks_now, most_lacking}
use Rattle.log_judge.specs.Earliest.{lacking, free_from, EarliestFree}
use Rattle.log_judge.proofs.Earliest.{earliest_cleared}
use Rattle.log_judge.proofs.Runs.{last_end_is}
use Rattle.log_judge.proofs.Lasts.{lt_shift, last_end_later, last_end_rests}

-- the last end that is kept is the last one that the history shows
last_shown : (h : History) (i b : ℕ) → 1 ≤ length h → last_end true (trace h i) (length h - 1) ≡ Some b →
    last_below (ends_at (trace h i)) (length h) ≡ Some b
last_shown h i b some last =
    let found = last_end_is true (trace h i) (length h - 1) b last in
    last_below-at (ends_at (trace h i)) (length h) b
    (elim found.1 [
      | inl first ↦ rw first.0 refl
      | inr later ↦ rw later.1.0 later.1.1
    ])
    (omega (arith, found.0, some))
    (λ j lo hi. last_end_later true (trace h i) (length h - 1) b j last lo (omega (arith, hi)))

later_than : (x m k ra y : ℕ) → x ≡ suc m + k + ra → nat_lt x y ≡ nat_lt (suc k) (y - (m + ra))
later_than x m k ra y e = elim (cases_lt x y) [
  | inl lt ↦ lt-ltb x y lt ∙ sym (lt-ltb (suc k) (y - (m + ra)) (omega (arith, lt, e)))
  | inr ge ↦ le-ltb x y ge ∙ sym (le-ltb (suc k) (y - (m + ra)) (omega (arith, ge, e)))
]

-- what one group lacks
each : (r : Rules) (h : History) (g i k : ℕ) → HasSize r.count h → i < r.count →
    is_uncleared r (still r h k) (natural_picture r (still r h k)) g i ≡ nat_lt (suc k) (lacking r h g i)
each r h g i k sized lt = go (r.between i g) refl (last_end true (trace h i) (length h - 1)) refl
  where
    go : (o : Option ℕ) → r.between i g ≡ o → (e : Option ℕ) → last_end true (trace h i) (length h - 1) ≡ e →
        is_uncleared r (still r h k) (natural_picture r (still r h k)) g i ≡ nat_lt (suc k) (lacks_now (length h - 1 + r.red_amber g) (r.between i g) (last_end true (trace h i) (length h - 1)))
    go None pair e is =
        ap (λ (o : Option ℕ). is_close o (r.red_amber g) (suc (length (still r h k) - 1)) (trace (still r h (suc k)) i)) pair
        ∙ close_to_none (r.red_amber g) (suc (length (still r h k) - 1)) (trace (still r h (suc k)) i)
        ∙ sym (ap (λ (o : Option ℕ). nat_lt (suc k) (lacks_now (length h - 1 + r.red_amber g) o (last_end true (trace h i) (length h - 1)))) pair
        ∙ le-ltb (suc k) 0 (omega arith))
    go (Some z) pair None is = absurd (last_end_rests (trace h i) (length h - 1) is)
    go (Some z) pair (Some b) is =
        earliest_cleared r h g i b z k sized lt pair (last_shown h i b sized.0 is)
        ∙ later_than (length h + k + r.red_amber g) (length h - 1) k (r.red_amber g) (b + z) (omega (arith, sized.0))
        ∙ sym (ap (λ (o : Option ℕ). nat_lt (suc k) (lacks_now (length h - 1 + r.red_amber g) o (last_end true (trace h i) (length h - 1)))) pair
        ∙ ap (λ (e : Option ℕ). nat_lt (suc k) (lacks_now (length h - 1 + r.red_amber g) (Some z) e)) is)

is_some_or : (o : Option ℕ) (b : Bool) (n : ℕ) → is_some (or_here o b n) ≡ (is_some o || b)
is_some_or (Some j) b n = refl
is_some_or None true n = refl
is_some_or None false n = refl

-- the greatest of two numbers
greater : (k a b : ℕ) (c : Bool) → nat_lt a b ≡ c → (nat_lt k a || nat_lt k b) ≡ nat_lt k (if c then b else a)
greater k a b true e = (
    let lt : a < b = ltb-true a b e in
    elim (cases_lt k a) [
      | inl below ↦ rw (lt-ltb k a below, lt-ltb k b (omega (arith, below, lt))) refl
      | inr above ↦ rw (le-ltb k a above) refl
    ])
greater k a b false e = (
    let ge : b ≤ a = ltb-false a b e in
    elim (cases_lt k a) [
      | inl below ↦ rw (lt-ltb k a below) refl
      | inr above ↦ rw (le-ltb k a above, le-ltb k b (omega (arith, above, ge))) refl
    ])

first_of : (c : Bool) (x y : ℕ × ℕ) → (if c then x else y).1 ≡ (if c then x.1 else y.1)
first_of true x y = refl
first_of false x y = refl

any : (p : ℕ → Bool) (f : ℕ → ℕ) (k n : ℕ) → ((i : ℕ) → i < n → p i ≡ nat_lt k (f i)) → is_some (least_below p n) ≡ nat_lt k (most_lacking f n).1
unfolding least_below
any p f k zero same = sym (le-ltb k 0 (omega arith))
any p f k (suc n) same =
    is_some_or (least_below p n) (p n) n
    ∙ ap (λ (b : Bool). b || p n) (any p f k n (λ i lt. same i (omega (arith, lt))))
    ∙ ap (λ (b : Bool). nat_lt k (most_lacking f n).1 || b) (same n (omega arith))
    ∙ greater k (most_lacking f n).1 (f n) (nat_lt (most_lacking f n).1 (f n)) refl
    ∙ ap (λ (x : ℕ). nat_lt k x) (sym (first_of (nat_lt (most_lacking f n).1 (f n)) (n, f n) (most_lacking f n)))

pub earliest_free : EarliestFree
earliest_free r h g k sized =
    any _ (lacking r h g) (suc k) r.count (λ i lt. each r h g i k sized lt)
    ∙ sym (lt_shift (length h - 1) (suc k) (most_lacking (lacking r h g) r.count).1 (length h + k) (free_from r h g) (omega (arith, sized.0)) refl)
