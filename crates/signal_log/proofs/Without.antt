-- Texts that don't have a byte, and how such a byte parts a text.
use Rattle.std.proofs.Common.{◌≡◌, ◌∙◌, ℕ, zero, suc, ◌+◌, ◌<◌, ◌/◌, ◌%◌, Bool, true, false, List, [], ◌∷◌, ◌++◌, if◌then◌else◌, ◌==◌, ◌||◌, refl, ap, sym, subst, arith}
use Rattle.std.specs.Fmt.{decimal, digits, digits_onto, digit_glyph}
use Rattle.std.proofs.lemmas.Bool.{eq-eqb, lt-ltb, or_left, or_parts}

-- no item is b
abbrev pub Without : ℕ → List ℕ → Type 0
Without b [] = Unit {0}
Without b (x ∷ xs) = (x ≡ b → ⊥) × Without b xs

pub without-append : (b : ℕ) (xs ys : List ℕ) → Without b xs → Without b ys → Without b (xs ++ ys)
without-append b [] ys p q = q
without-append b (x ∷ xs) ys p q = (p.0, without-append b xs ys p.1 q)

pub head_of : (x y : ℕ) (xs ys : List ℕ) → x ∷ xs ≡ y ∷ ys → x ≡ y
head_of x y xs ys e = cc

pub tail_of : (x y : ℕ) (xs ys : List ℕ) → x ∷ xs ≡ y ∷ ys → xs ≡ ys
tail_of x y xs ys e = cc

-- the first b parts a text in one way
pub cut_once : (b : ℕ) (xs zs ys ws : List ℕ) → Without b xs → Without b zs → xs ++ b ∷ ys ≡ zs ++ b ∷ ws → (xs ≡ zs) × (ys ≡ ws)
cut_once b [] [] ys ws p q e = (refl, tail_of b b ys ws e)
cut_once b [] (z ∷ zs) ys ws p q e = absurd (q.0 (sym (head_of b z ys (zs ++ b ∷ ws) e)))
cut_once b (x ∷ xs) [] ys ws p q e = absurd (p.0 (head_of x b (xs ++ b ∷ ys) ws e))
cut_once b (x ∷ xs) (z ∷ zs) ys ws p q e =
    let rest = cut_once b xs zs ys ws p.1 q.1 (tail_of x z (xs ++ b ∷ ys) (zs ++ b ∷ ws) e) in
    (ap (λ l. x ∷ l) rest.0 ∙ ap (λ h. h ∷ zs) (head_of x z (xs ++ b ∷ ys) (zs ++ b ∷ ws) e), rest.1)

pub without_along : (b : ℕ) (xs ys : List ℕ) → Without b xs → xs ≡ ys → Without b ys
without_along b xs ys w e = subst (λ l. Without b l) e w

-- no digit is b
abbrev pub NoDigit : ℕ → Type 0
NoDigit b = (d : ℕ) → d < 10 → 48 + d ≡ b → ⊥

either_without : (b : ℕ) (t : Bool) (xs ys : List ℕ) → Without b xs → Without b ys → Without b (if t then xs else ys)
either_without b true xs ys p q = p
either_without b false xs ys p q = q

digits_onto_without : (b k n : ℕ) (text : List ℕ) → NoDigit b → Without b text → Without b (digits_onto k 10 false n text)
digits_onto_without b zero n text none w = w
digits_onto_without b (suc k) n text none w =
    let lt : n % 10 < 10 = omega arith in
    let glyph : digit_glyph false (n % 10) ≡ 48 + n % 10 = ap (λ t. if t then 48 + n % 10 else 87 + n % 10) (lt-ltb (n % 10) 10 lt) in
    let here : Without b (digit_glyph false (n % 10) ∷ text) = ((λ e. none (n % 10) lt (sym glyph ∙ e)), w) in
    either_without b (n / 10 == 0) (digit_glyph false (n % 10) ∷ text) (digits_onto k 10 false (n / 10) (digit_glyph false (n % 10) ∷ text)) here
    (digits_onto_without b k (n / 10) (digit_glyph false (n % 10) ∷ text) none here)

-- it holds of every number, of those too that have more digits than are written
pub decimal_without : (b n : ℕ) → NoDigit b → Without b (decimal n)
unfolding digits
decimal_without b n none = digits_onto_without b 64 n [] none tt

pub true_not_false : true ≡ false → ⊥
true_not_false e = cc

pub false_not_true : false ≡ true → ⊥
false_not_true e = cc

-- a text without b, seen by computing
abbrev contains_byte : ℕ → List ℕ → Bool
contains_byte b [] = false
contains_byte b (x ∷ xs) = (x == b) || contains_byte b xs

pub without_by_test : (b : ℕ) (xs : List ℕ) → contains_byte b xs ≡ false → Without b xs
without_by_test b [] e = tt
without_by_test b (x ∷ xs) e = (
  (λ is. absurd (true_not_false (sym (or_left (x == b) (contains_byte b xs) (eq-eqb x b is)) ∙ e))),
  without_by_test b xs ((or_parts (x == b) (contains_byte b xs) e).1),
)
