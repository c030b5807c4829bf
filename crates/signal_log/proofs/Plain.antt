-- Texts of plain bytes: a space or what comes after it, and before the bar.
use Rattle.std.proofs.Common.{◌≡◌, ℕ, zero, suc, ◌+◌, ◌<◌, ◌≤◌, ◌/◌, ◌%◌, Bool, true, false, List, [], ◌∷◌, ◌++◌, if◌then◌else◌, ◌==◌, ◌&&◌, nat_le, nat_lt, ap, arith}
use Rattle.std.specs.Fmt.{decimal, digits, digits_onto, digit_glyph}
use Rattle.std.proofs.lemmas.Bool.{lt-ltb, ltb-true, leb-true, and_parts}
use Rattle.signal_log.proofs.Without.{Without}

-- each byte is plain
abbrev pub Plain : List ℕ → Type 0
Plain [] = Unit {0}
Plain (x ∷ xs) = ((32 ≤ x) × (x < 124)) × Plain xs

pub plain-append : (xs ys : List ℕ) → Plain xs → Plain ys → Plain (xs ++ ys)
plain-append [] ys p q = q
plain-append (x ∷ xs) ys p q = (p.0, plain-append xs ys p.1 q)

-- a byte that isn't plain isn't there
pub plain_without : (b : ℕ) (xs : List ℕ) → ((x : ℕ) → 32 ≤ x → x < 124 → x ≡ b → ⊥) → Plain xs → Without b xs
plain_without b [] other p = tt
plain_without b (x ∷ xs) other p = (other x p.0.0 p.0.1, plain_without b xs other p.1)

pub no_bar : (x : ℕ) → 32 ≤ x → x < 124 → x ≡ 124 → ⊥
no_bar x low high is = absurd (omega (arith, high, is))

pub no_feed : (x : ℕ) → 32 ≤ x → x < 124 → x ≡ 10 → ⊥
no_feed x low high is = absurd (omega (arith, low, is))

-- a plain text, seen by computing
abbrev is_plain : List ℕ → Bool
is_plain [] = true
is_plain (x ∷ xs) = (nat_le 32 x && nat_lt x 124) && is_plain xs

pub plain_by_test : (xs : List ℕ) → is_plain xs ≡ true → Plain xs
plain_by_test [] e = tt
plain_by_test (x ∷ xs) e =
    let both = and_parts (nat_le 32 x && nat_lt x 124) (is_plain xs) e in
    let here = and_parts (nat_le 32 x) (nat_lt x 124) both.0 in
    ((leb-true 32 x here.0, ltb-true x 124 here.1), plain_by_test xs both.1)

either_plain : (t : Bool) (xs ys : List ℕ) → Plain xs → Plain ys → Plain (if t then xs else ys)
either_plain true xs ys p q = p
either_plain false xs ys p q = q

digits_onto_plain : (k n : ℕ) (text : List ℕ) → Plain text → Plain (digits_onto k 10 false n text)
digits_onto_plain zero n text w = w
digits_onto_plain (suc k) n text w =
    let lt : n % 10 < 10 = omega arith in
    let glyph : digit_glyph false (n % 10) ≡ 48 + n % 10 = ap (λ t. if t then 48 + n % 10 else 87 + n % 10) (lt-ltb (n % 10) 10 lt) in
    let here : Plain (digit_glyph false (n % 10) ∷ text) = ((omega (arith, glyph, lt), omega (arith, glyph, lt)), w) in
    either_plain (n / 10 == 0) (digit_glyph false (n % 10) ∷ text) (digits_onto k 10 false (n / 10) (digit_glyph false (n % 10) ∷ text)) here
    (digits_onto_plain k (n / 10) (digit_glyph false (n % 10) ∷ text) here)

-- a number, also one that has more digits than are written
pub decimal_plain : (n : ℕ) → Plain (decimal n)
unfolding digits
decimal_plain n = digits_onto_plain 64 n [] tt
