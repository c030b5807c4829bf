-- Names that are compared with words.
use Rattle.std.proofs.Common.{◌≡◌, ◌∙◌, ℕ, zero, suc, ◌<◌, ◌≤◌, Bool, true, false, List, [], ◌∷◌, ◌++◌, length, map, Option, None, Some, refl, sym, ap, arith, nat_eq, get_or, inl, inr, ◌⊎◌, ◌≢◌}
use Rattle.std.specs.Prelude.{if◌then◌else◌, ◌&&◌, slice_get, slice_index_or, unwrap_or, ◌||◌}
use Rattle.std.proofs.lemmas.Bool.Decides.{eqb_tells}
use Rattle.std.proofs.lemmas.List.{append-nil}
use Rattle.std.specs.Str.{bytes_eq}
use Rattle.sig_types.specs.Text.{strip}
use Rattle.vap_ast.specs.Tree.{array_of}
use Rattle.vap_ast.specs.declared.tree.ArrayDecl.{ArrayDecl}

nat_eq_sym : (a b : ℕ) → nat_eq a b ≡ nat_eq b a
nat_eq_sym a b = nat_eq_both (eqb_tells a b) (eqb_tells b a)
  where
    nat_eq_both : ((nat_eq a b ≡ true) × (a ≡ b)) ⊎ ((nat_eq a b ≡ false) × (a ≢ b)) →
        ((nat_eq b a ≡ true) × (b ≡ a)) ⊎ ((nat_eq b a ≡ false) × (b ≢ a)) → nat_eq a b ≡ nat_eq b a
    nat_eq_both (inl t) (inl u) = t.0 ∙ sym u.0
    nat_eq_both (inl t) (inr u) = absurd (u.1 (sym t.1))
    nat_eq_both (inr t) (inl u) = absurd (t.1 (sym u.1))
    nat_eq_both (inr t) (inr u) = t.0 ∙ sym u.0

-- a text doesn't begin with a front
no_step : (t e : Bool) (o : Option (List ℕ)) → (o ≡ None → e ≡ false) → (if t then o else None) ≡ None → (t && e) ≡ false
no_step true e o h is = h is
no_step false e o h is = refl

pub no_front : (front xs bytes : List ℕ) → strip front bytes ≡ None → bytes_eq (front ++ xs) bytes ≡ false
no_front [] xs bytes is = absurd cc
no_front (f ∷ fs) xs [] is = refl
no_front (f ∷ fs) xs (b ∷ bs) is =
    ap (λ t. t && bytes_eq (fs ++ xs) bs) (nat_eq_sym f b)
    ∙ no_step (nat_eq b f) (bytes_eq (fs ++ xs) bs) (strip fs bs) (no_front fs xs bs) is

front_step : (t e r : Bool) (o : Option (List ℕ)) (rest : List ℕ) → (o ≡ Some rest → e ≡ r) → (if t then o else None) ≡ Some rest → (t && e) ≡ r
front_step true e r o rest h is = h is
front_step false e r o rest h is = absurd cc

some_same : (xs ys : List ℕ) → Some xs ≡ Some ys → xs ≡ ys
some_same xs ys e = cc

-- it begins with the front, and this follows
pub with_front : (front xs bytes rest : List ℕ) → strip front bytes ≡ Some rest → bytes_eq (front ++ xs) bytes ≡ bytes_eq xs rest
with_front [] xs bytes rest is = ap (λ l. bytes_eq xs l) (some_same bytes rest is)
with_front (f ∷ fs) xs [] rest is = absurd cc
with_front (f ∷ fs) xs (b ∷ bs) rest is =
    ap (λ t. t && bytes_eq (fs ++ xs) bs) (nat_eq_sym f b)
    ∙ front_step (nat_eq b f) (bytes_eq (fs ++ xs) bs) (bytes_eq xs rest) (strip fs bs) rest (with_front fs xs bs rest) is

pub ruleset fronts = (no_front, with_front)

or_same : (b : Bool) → (b || b) ≡ b
or_same true = refl
or_same false = refl

-- a value that is named by its name alone
pub named_alone : (name bytes : List ℕ) → (bytes_eq name bytes || bytes_eq (name ++ []) bytes) ≡ bytes_eq name bytes
named_alone name bytes = rw (append-nil name) (or_same (bytes_eq name bytes))

-- the name of the array at a place
pub array_at : (arrays : List ArrayDecl) (a : ℕ) (it : ArrayDecl) → a < length arrays → it ≡ get_or arrays a it →
    it.name ≡ slice_index_or (map (λ a. a.name) (map array_of arrays)) a []
array_at [] a it below is = absurd (omega arith)
array_at (x ∷ xs) zero it below is = ap (λ a. a.name) is
array_at (x ∷ xs) (suc a) it below is = array_at xs a it (omega arith) is

-- there is none past the last
pub no_array_at : (arrays : List ArrayDecl) (a : ℕ) → length arrays ≤ a → slice_index_or (map (λ a. a.name) (map array_of arrays)) a [] ≡ []
no_array_at [] a past = refl
no_array_at (x ∷ xs) zero past = absurd (omega arith)
no_array_at (x ∷ xs) (suc a) past = no_array_at xs a (omega arith)

-- the names of arrays
pub ruleset names = (array_at, no_array_at)

-- an element that may not be there
pub or_none : (xs : List (List ℕ)) (k : ℕ) → unwrap_or (slice_get xs k) [] ≡ slice_index_or xs k []
or_none [] k = refl
or_none (x ∷ xs) zero = refl
or_none (x ∷ xs) (suc k) = or_none xs k
