-- A front of a text, tested by a cut and an equality.
use Rattle.std.proofs.Common.{◌≡◌, ◌∙◌, ℕ, ◌<◌, ◌≤◌, Bool, true, false, List, [], ◌∷◌, length, take, drop, Option, None, Some, refl, sym, ap, arith, nat_eq, ◌++◌, eq-eqb}
use Rattle.std.specs.Prelude.{if◌then◌else◌, ◌&&◌}
use Rattle.std.proofs.lemmas.Bool.{eqb-true}
use lib.Pointwise.{pointwise}
use Rattle.sig_types.specs.Text.{strip}

-- a text that is shorter than the front doesn't begin with it
pub strip_short : (front bs : List ℕ) → length bs < length front → strip front bs ≡ None
strip_short [] bs short = absurd (omega arith)
strip_short (f ∷ fs) [] short = refl
strip_short (f ∷ fs) (b ∷ bs) short = short_step (nat_eq b f) (strip fs bs) (strip_short fs bs (omega arith))
  where
    short_step : (t : Bool) (o : Option (List ℕ)) → o ≡ None → (if t then o else None) ≡ None
    short_step true o is = is
    short_step false o is = refl

tells_step : (s p t : Bool) (o whole : Option (List ℕ)) → o ≡ (if p then whole else None) → (s && p) ≡ t →
    (if s then o else None) ≡ (if t then whole else None)
tells_step true p t o whole before is = before ∙ ap (λ b. if b then whole else None) is
tells_step false p t o whole before is = ap (λ b. if b then whole else None) is

-- what a front and an equality tell
pub strip_tells : (front bs : List ℕ) (t : Bool) → length front ≤ length bs → pointwise nat_eq (take (length front) bs) front ≡ t →
    strip front bs ≡ (if t then Some (drop (length front) bs) else None)
strip_tells [] bs t le is = ap (λ b. if b then Some bs else None) is
strip_tells (f ∷ fs) [] t le is = absurd (omega arith)
strip_tells (f ∷ fs) (b ∷ bs) t le is =
    tells_step (nat_eq b f) (pointwise nat_eq (take (length fs) bs) fs) t (strip fs bs) (Some (drop (length fs) bs))
    (strip_tells fs bs (pointwise nat_eq (take (length fs) bs) fs) (omega arith) refl) is

-- the same, as a cut of the line gives its parts
pub strip_cut : (front bs head rest : List ℕ) (t : Bool) → length front ≤ length bs → head ≡ take (length front) bs → rest ≡ drop (length front) bs →
    t ≡ pointwise nat_eq head front → strip front bs ≡ (if t then Some rest else None)
strip_cut front bs head rest t le is_head is_rest is =
    strip_tells front bs t le (sym (is ∙ ap (λ h. pointwise nat_eq h front) is_head)) ∙ ap (λ r. if t then Some r else None) (sym is_rest)

some_case : (xs rest : List ℕ) → Some xs ≡ Some rest → xs ≡ rest
some_case xs rest e = cc

strip_case : (f b : ℕ) (fs bs rest : List ℕ) (t : Bool) → (t ≡ true → b ≡ f) → (strip fs bs ≡ Some rest → bs ≡ fs ++ rest) →
    (if t then strip fs bs else None) ≡ Some rest → b ∷ bs ≡ (f ∷ fs) ++ rest
strip_case f b fs bs rest true here before e = let is : b ≡ f = here refl in rw is (ap (λ (xs : List ℕ). f ∷ xs) (before e))
strip_case f b fs bs rest false here before e = absurd cc

-- a text is the front and what follows it
pub strip_found : (front bs rest : List ℕ) → strip front bs ≡ Some rest → bs ≡ front ++ rest
strip_found [] bs rest e = some_case bs rest e
strip_found (f ∷ fs) [] rest e = absurd cc
strip_found (f ∷ fs) (b ∷ bs) rest e = strip_case f b fs bs rest (nat_eq b f) (eqb-true b f) (strip_found fs bs rest) e

-- what follows the front of a text that is made of both
pub strip_again : (front rest : List ℕ) → strip front (front ++ rest) ≡ Some rest
strip_again [] rest = refl
strip_again (f ∷ fs) rest = let here : nat_eq f f ≡ true = eq-eqb f f refl in rw (here, strip_again fs rest) refl
