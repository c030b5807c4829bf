-- Texts cut at a byte, and the bytes that a text lacks.
use Rattle.std.proofs.Common.{◌≡◌, ℕ, ◌<◌, ◌≤◌, Bool, true, false, List, [], ◌∷◌, ◌++◌, Option, Some, None, refl, ap, arith, nat_eq}
use Rattle.std.specs.Prelude.{if◌then◌else◌, ◌&&◌, not, nat_le}
use Rattle.std.specs.Option.{option_map}
use Rattle.std.proofs.lemmas.Bool.{eqb-true, eq-eqb, ne_eqb, leb-true, and_parts, not-true}
use Rattle.sig_types.specs.Text.{cut_at, is_digit, all_digits}

abbrev pub parts : List ℕ → List ℕ → Option (List ℕ × List ℕ)
parts l r = Some (l, r)

abbrev pub beginning_part : Option (List ℕ × List ℕ) → List ℕ
beginning_part None = []
beginning_part (Some p) = p.0

abbrev pub back_part : Option (List ℕ × List ℕ) → List ℕ
back_part None = []
back_part (Some p) = p.1

parts_case : (s b : ℕ) (bs : List ℕ) (t : Bool) (o : Option (List ℕ × List ℕ)) → (t ≡ true → b ≡ s) →
    ((l r : List ℕ) → o ≡ parts l r → bs ≡ l ++ s ∷ r) → (l r : List ℕ) →
    (if t then parts [] bs else option_map (λ p. (b ∷ p.0, p.1)) o) ≡ parts l r → b ∷ bs ≡ l ++ s ∷ r
parts_case s b bs true o is before l r e =
    let first : [] ≡ l = ap beginning_part e in
    let rest : bs ≡ r = ap back_part e in
    let same : b ≡ s = is refl in
    rw (same, ← first, ← rest) refl
parts_case s b bs false None is before l r e = absurd cc
parts_case s b bs false (Some p) is before l r e =
    let first : b ∷ p.0 ≡ l = ap beginning_part e in
    let rest : p.1 ≡ r = ap back_part e in
    let all : bs ≡ p.0 ++ s ∷ p.1 = before p.0 p.1 refl in
    rw (← first, ← rest) (ap (λ (xs : List ℕ). b ∷ xs) all)

-- what a cut parts, with the stop between
pub cut_parts : (s : ℕ) (bs l r : List ℕ) → cut_at s bs ≡ parts l r → bs ≡ l ++ s ∷ r
cut_parts s [] l r e = absurd cc
cut_parts s (b ∷ bs) l r e = parts_case s b bs (nat_eq b s) (cut_at s bs) (eqb-true b s) (λ l r cut. cut_parts s bs l r cut) l r e

-- whether no byte is the stop
abbrev pub lacks : ℕ → List ℕ → Bool
lacks s [] = true
lacks s (b ∷ bs) = not (nat_eq b s) && lacks s bs

pub cut_again : (s : ℕ) (l r : List ℕ) → lacks s l ≡ true → cut_at s (l ++ s ∷ r) ≡ parts l r
cut_again s [] r e = let here : nat_eq s s ≡ true = eq-eqb s s refl in rw here refl
cut_again s (b ∷ bs) r e =
    let p = and_parts (not (nat_eq b s)) (lacks s bs) e in
    let here : nat_eq b s ≡ false = not-true (nat_eq b s) p.0 in
    rw (here, cut_again s bs r p.1) refl

pub cut_none : (s : ℕ) (l : List ℕ) → lacks s l ≡ true → cut_at s l ≡ None
cut_none s [] e = refl
cut_none s (b ∷ bs) e =
    let p = and_parts (not (nat_eq b s)) (lacks s bs) e in
    let here : nat_eq b s ≡ false = not-true (nat_eq b s) p.0 in
    rw (here, cut_none s bs p.1) refl

pub lacks-append : (s : ℕ) (a b : List ℕ) → lacks s a ≡ true → lacks s b ≡ true → lacks s (a ++ b) ≡ true
lacks-append s [] b p q = q
lacks-append s (x ∷ a) b p q =
    let h = and_parts (not (nat_eq x s)) (lacks s a) p in
    rw (h.0) (lacks-append s a b h.1 q)

-- no digit is a byte below 48
pub lacks_digits : (s : ℕ) (ds : List ℕ) → s < 48 → all_digits ds ≡ true → lacks s ds ≡ true
lacks_digits s [] low e = refl
lacks_digits s (d ∷ ds) low e =
    let h = and_parts (is_digit d) (all_digits ds) e in
    let g = and_parts (nat_le 48 d) (nat_le d 57) h.0 in
    let least : 48 ≤ d = leb-true 48 d g.0 in
    let here : nat_eq d s ≡ false = ne_eqb d s (λ is. omega (arith, is)) in
    rw here (lacks_digits s ds low h.1)
