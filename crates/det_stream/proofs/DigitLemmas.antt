-- The numbers of an entry of three digits.
use Rattle.std.proofs.Common.{◌≡◌, ℕ, ◌+◌, ◌-◌, ◌*◌, ◌≤◌, ◌==◌, Bool, true, false, not, ◌||◌, List, [], ◌∷◌, length, get_or, Some, nat_eq, refl, ap, arith, ne_eqb}
use Rattle.std.proofs.lemmas.Bool.{both_ways, or_right}
use Rattle.std.specs.List.{position_or_len, slice_split}
use Rattle.sig_types.specs.Text.{is_digit, number_of}
use Rattle.det_stream.specs.Entries.{BeginsWith, ends_at, numbers_of}

no_colon : (d : ℕ) → is_digit d ≡ true → (d == 58) ≡ false
no_colon d digit = grind (arith, digit)

digit_number : (d : ℕ) → is_digit d ≡ true → number_of (d ∷ []) ≡ Some (d - 48)
digit_number d digit = rw (digit, or_right (not (nat_eq d 48)) true refl) (ap Some (omega arith))

split_digits : (d f r : ℕ) → is_digit d ≡ true → is_digit f ≡ true → is_digit r ≡ true →
    slice_split (λ c. c == 58) (d ∷ 58 ∷ f ∷ 58 ∷ r ∷ []) ≡ (d ∷ []) ∷ (f ∷ []) ∷ (r ∷ []) ∷ []
split_digits d f r p q s = rw (no_colon d p, no_colon f q, no_colon r s) refl

pub digits_numbers : (d f r : ℕ) → is_digit d ≡ true → is_digit f ≡ true → is_digit r ≡ true →
    numbers_of (d ∷ 58 ∷ f ∷ 58 ∷ r ∷ []) ≡ Some (d - 48, f - 48, r - 48)
unfolding numbers_of
digits_numbers d f r p q s = rw (split_digits d f r p q s, digit_number d p, digit_number f q, digit_number r s) refl

no_space : (d : ℕ) → is_digit d ≡ true → (d == 32) ≡ false
no_space d digit = grind (arith, digit)

-- the same where the detector has two digits
more_number : (t d : ℕ) → is_digit t ≡ true → (t == 48) ≡ false → is_digit d ≡ true → number_of (t ∷ d ∷ []) ≡ Some (10 * (t - 48) + (d - 48))
more_number t d tens first digit = rw (tens, first, digit) (ap Some (omega arith))

more_split : (t d f r : ℕ) → is_digit t ≡ true → is_digit d ≡ true → is_digit f ≡ true → is_digit r ≡ true →
    slice_split (λ c. c == 58) (t ∷ d ∷ 58 ∷ f ∷ 58 ∷ r ∷ []) ≡ (t ∷ d ∷ []) ∷ (f ∷ []) ∷ (r ∷ []) ∷ []
more_split t d f r o p q s = rw (no_colon t o, no_colon d p, no_colon f q, no_colon r s) refl

more_numbers : (t d f r : ℕ) → is_digit t ≡ true → (t == 48) ≡ false → is_digit d ≡ true → is_digit f ≡ true → is_digit r ≡ true →
    numbers_of (t ∷ d ∷ 58 ∷ f ∷ 58 ∷ r ∷ []) ≡ Some (10 * (t - 48) + (d - 48), f - 48, r - 48)
unfolding numbers_of
more_numbers t d f r o first p q s = rw (more_split t d f r o p q s, more_number t d o first p, digit_number f q, digit_number r s) refl

or_other : (a b : Bool) → a ≡ false → (a || b) ≡ true → b ≡ true
or_other true b fails holds = absurd (both_ways true fails refl)
or_other false b fails holds = holds

-- what stands behind an entry begins with a space
no_more : (front : ℕ) (more : List ℕ) → (front == front + length more || get_or more 0 0 == 32) ≡ true → position_or_len (λ c. c == 32) more ≡ 0
no_more front [] ends = refl
no_more front (x ∷ more) ends = rw (or_other _ (x == 32) (ne_eqb front (front + length (x ∷ more)) (λ e. omega arith)) ends) refl

-- a text that begins with three digits and colons between
digits_begin : (d f r : ℕ) (more : List ℕ) → is_digit d ≡ true → is_digit f ≡ true → is_digit r ≡ true → position_or_len (λ c. c == 32) more ≡ 0 →
    BeginsWith (d ∷ 58 ∷ f ∷ 58 ∷ r ∷ more) 5 (d - 48, f - 48, r - 48)
digits_begin d f r more p q s ends = record {
  end_is = rw (no_space d p, no_space f q, no_space r s, ends) refl;
  numbers_are = digits_numbers d f r p q s;
  inside = omega arith;
}

more_begin : (t d f r : ℕ) (more : List ℕ) → is_digit t ≡ true → (t == 48) ≡ false → is_digit d ≡ true → is_digit f ≡ true → is_digit r ≡ true →
    position_or_len (λ c. c == 32) more ≡ 0 → BeginsWith (t ∷ d ∷ 58 ∷ f ∷ 58 ∷ r ∷ more) 6 (10 * (t - 48) + (d - 48), f - 48, r - 48)
more_begin t d f r more o first p q s ends = record {
  end_is = rw (no_space t o, no_space d p, no_space f q, no_space r s, ends) refl;
  numbers_are = more_numbers t d f r o first p q s;
  inside = omega arith;
}

-- the same by the places of a text
pub digits_at : (xs : List ℕ) (v w x y z : ℕ) → 5 ≤ length xs → get_or xs 1 w ≡ 58 → get_or xs 3 y ≡ 58 → ends_at xs 5 ≡ true →
    is_digit (get_or xs 0 v) ≡ true → is_digit (get_or xs 2 x) ≡ true → is_digit (get_or xs 4 z) ≡ true →
    BeginsWith xs 5 (get_or xs 0 v - 48, get_or xs 2 x - 48, get_or xs 4 z - 48)
digits_at (d ∷ a ∷ f ∷ b ∷ r ∷ more) v w x y z len ca cb ends p q s =
    let five : length (d ∷ a ∷ f ∷ b ∷ r ∷ more) ≡ 5 + length more = omega arith in
    rw (ca, cb) (digits_begin d f r more p q s (no_more 5 more (rw five at ends)))
digits_at [] v w x y z len ca cb ends p q s = absurd (omega (arith, len))
digits_at (d ∷ []) v w x y z len ca cb ends p q s = absurd (omega (arith, len))
digits_at (d ∷ a ∷ []) v w x y z len ca cb ends p q s = absurd (omega (arith, len))
digits_at (d ∷ a ∷ f ∷ []) v w x y z len ca cb ends p q s = absurd (omega (arith, len))
digits_at (d ∷ a ∷ f ∷ b ∷ []) v w x y z len ca cb ends p q s = absurd (omega (arith, len))

pub more_digits_at : (xs : List ℕ) (u v w x y z : ℕ) → 6 ≤ length xs → get_or xs 2 w ≡ 58 → get_or xs 4 y ≡ 58 → ends_at xs 6 ≡ true →
    is_digit (get_or xs 0 u) ≡ true → (get_or xs 0 u == 48) ≡ false → is_digit (get_or xs 1 v) ≡ true →
    is_digit (get_or xs 3 x) ≡ true → is_digit (get_or xs 5 z) ≡ true →
    BeginsWith xs 6 (10 * (get_or xs 0 u - 48) + (get_or xs 1 v - 48), get_or xs 3 x - 48, get_or xs 5 z - 48)
more_digits_at (t ∷ d ∷ a ∷ f ∷ b ∷ r ∷ more) u v w x y z len ca cb ends o first p q s =
    let six : length (t ∷ d ∷ a ∷ f ∷ b ∷ r ∷ more) ≡ 6 + length more = omega arith in
    rw (ca, cb) (more_begin t d f r more o first p q s (no_more 6 more (rw six at ends)))
more_digits_at [] u v w x y z len ca cb ends o first p q s = absurd (omega (arith, len))
more_digits_at (t ∷ []) u v w x y z len ca cb ends o first p q s = absurd (omega (arith, len))
more_digits_at (t ∷ d ∷ []) u v w x y z len ca cb ends o first p q s = absurd (omega (arith, len))
more_digits_at (t ∷ d ∷ a ∷ []) u v w x y z len ca cb ends o first p q s = absurd (omega (arith, len))
more_digits_at (t ∷ d ∷ a ∷ f ∷ []) u v w x y z len ca cb ends o first p q s = absurd (omega (arith, len))
more_digits_at (t ∷ d ∷ a ∷ f ∷ b ∷ []) u v w x y z len ca cb ends o first p q s = absurd (omega (arith, len))
