-- Cuts, digits and names, as loops go through them.
use Rattle.std.proofs.Common.{◌≡◌, ◌∙◌, ℕ, ◌+◌, ◌-◌, ◌*◌, ◌<◌, ◌≤◌, Bool, true, false, List, [], ◌∷◌, length, get_or, take, drop, None, Some, refl, sym, ap, arith, nat_eq}
use Rattle.std.specs.Prelude.{if◌then◌else◌, ◌&&◌, nat_le}
use Rattle.std.proofs.lemmas.Bool.Decides.{eqb_tells}
use Rattle.std.proofs.lemmas.Bool.{lt-leb, and_right}
use Prim.Native.Nat.{suc, zero}
use Rattle.sig_types.specs.Text.{cut_at, value_from, same_name, lower, within}

pub cut_missed : (stop : ℕ) (bs : List ℕ) → ((k : ℕ) → k < length bs → get_or bs k 0 ≡ stop → ⊥) → cut_at stop bs ≡ None
cut_missed stop [] none = refl
cut_missed stop (b ∷ bs) none =
    let here : nat_eq b stop ≡ false = grind (arith, eqb_tells, none 0 (omega arith)) in
    let rest = cut_missed stop bs (λ k below is. none (suc k) (omega arith) is) in
    rw (here, rest) refl

pub cut_found : (stop : ℕ) (bs : List ℕ) (i : ℕ) → i < length bs → ((k : ℕ) → k < i → get_or bs k 0 ≡ stop → ⊥) → get_or bs i 0 ≡ stop →
    cut_at stop bs ≡ Some (take i bs, drop (suc i) bs)
cut_found stop [] i below none is = absurd (omega arith)
cut_found stop (b ∷ bs) zero below none is =
    let here : nat_eq b stop ≡ true = grind (arith, eqb_tells) in
    rw here refl
cut_found stop (b ∷ bs) (suc i) below none is =
    let here : nat_eq b stop ≡ false = grind (arith, eqb_tells, none 0 (omega arith)) in
    let rest = cut_found stop bs i (omega arith) (λ k less e. none (suc k) (omega arith) e) is in
    rw (here, rest) refl

pub value_grows : (n : ℕ) (ds : List ℕ) → n ≤ value_from n ds
value_grows n [] = omega arith
value_grows n (d ∷ ds) = omega (arith, value_grows (10 * n + (d - 48)) ds)

-- a value past the most stays past it
pub too_great : (digits : Bool) (value n most : ℕ) (ds : List ℕ) → value ≡ value_from n ds → most < n →
    None ≡ (if digits then within 0 most (Some value) else None)
too_great true value n most ds is above =
    let past : most < value = omega (arith, value_grows n ds) in
    let fails : nat_le value most ≡ false = lt-leb value most past in
    rw (fails, and_right (nat_le 0 value) false refl) refl
too_great false value n most ds is above = refl

-- names of two lengths are not the same
pub names_differ : (xs ys : List ℕ) → (length xs ≡ length ys → ⊥) → false ≡ same_name xs ys
names_differ [] [] ne = absurd (ne refl)
names_differ [] (y ∷ ys) ne = refl
names_differ (x ∷ xs) [] ne = refl
names_differ (x ∷ xs) (y ∷ ys) ne =
    let rest = names_differ xs ys (λ e. ne (ap suc e)) in
    sym (ap (λ b. nat_eq (lower x) (lower y) && b) (sym rest) ∙ and_right (nat_eq (lower x) (lower y)) false refl)

-- the two parts, as two cuts of the slice give them
pub rest_of : (stop : ℕ) (bs : List ℕ) (i : ℕ) (front back rest : List ℕ) → cut_at stop bs ≡ Some (take i bs, drop (suc i) bs) →
    front ≡ take i bs → back ≡ drop i bs → rest ≡ drop 1 back → cut_at stop bs ≡ Some (front, rest)
rest_of stop bs i front back rest found is_front is_back is_rest =
    let tail : rest ≡ drop (suc i) bs = is_rest ∙ ap (λ xs. drop 1 xs) is_back ∙ drop_once i bs in
    rw (is_front, tail) found
  where
    drop_once : (n : ℕ) (xs : List ℕ) → drop 1 (drop n xs) ≡ drop (suc n) xs
    drop_once zero xs = refl
    drop_once (suc n) [] = refl
    drop_once (suc n) (x ∷ xs) = drop_once n xs
