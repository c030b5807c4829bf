-- Small facts on reasons, names and lists.
use Rattle.std.proofs.Common.{◌≡◌, ℕ, ◌==◌, Bool, true, false, not, List, [], ◌∷◌, ◌++◌, refl, sym, ap, ◌∙◌, Option, Some, None, nat_eq, inl, inr, ne_eqb}
use Rattle.std.specs.Option.{option_or}
use Rattle.std.proofs.lemmas.Bool.{and_parts, or_parts, cases_eq, and_from, not-true, or_from}
use Rattle.sig_types.specs.FirstRefused.{when, with_line}
use Rattle.sig_types.specs.Text.{same_name, lower}
use Rattle.pua_model.specs.Plan.{stands_in, are_apart, are_names}
use Rattle.sig_types.specs.Text.{is_name}
use Rattle.pua_reader.specs.declared.refusal.PuaWhy.{PuaWhy}

-- a rule that does not refuse, and those after it
pub none_first : (b : Bool) (w : PuaWhy) (next : Option PuaWhy) → option_or (when b w) next ≡ None → (b ≡ false) × (next ≡ None)
none_first true w next e = cc
none_first false w next e = (refl, e)

pub none_next : {W : Type 0} (a b : Option W) → option_or a b ≡ None → (a ≡ None) × (b ≡ None)
none_next None b e = (refl, e)
none_next (Some w) b e = cc

pub at_none : (n : ℕ) (o : Option PuaWhy) → with_line n o ≡ None → o ≡ None
at_none n None e = refl
at_none n (Some why) e = cc

eq_turned : (a b : ℕ) → nat_eq a b ≡ nat_eq b a
eq_turned a b = elim (cases_eq a b) [
  | inl same ↦ rw same refl
  | inr other ↦ ne_eqb a b other ∙ sym (ne_eqb b a (λ e. other (sym e)))
]

pub nat_turned : (a b : ℕ) → (a == b) ≡ (b == a)
nat_turned a b = eq_turned a b

pub same_turned : (a b : List ℕ) → same_name a b ≡ same_name b a
same_turned [] [] = refl
same_turned [] (y ∷ ys) = refl
same_turned (x ∷ xs) [] = refl
same_turned (x ∷ xs) (y ∷ ys) = rw (eq_turned (lower x) (lower y), same_turned xs ys) refl

-- a name put at the end
pub names_push : (ns : List (List ℕ)) (n : List ℕ) → are_names ns ≡ true → is_name n ≡ true → are_names (ns ++ n ∷ []) ≡ true
names_push [] n h is = and_from (is_name n) true is refl
names_push (m ∷ ms) n h is =
    let both = and_parts (is_name m) (are_names ms) h in
    and_from (is_name m) (are_names (ms ++ n ∷ [])) both.0 (names_push ms n both.1 is)

pub stands_push : (m : List ℕ) (ns : List (List ℕ)) (n : List ℕ) → stands_in m ns ≡ false → same_name n m ≡ false → stands_in m (ns ++ n ∷ []) ≡ false
stands_push m [] n h ne = or_from (same_name n m) false ne refl
stands_push m (k ∷ ks) n h ne =
    let both = or_parts (same_name k m) (stands_in m ks) h in
    or_from (same_name k m) (stands_in m (ks ++ n ∷ [])) both.0 (stands_push m ks n both.1 ne)

pub apart_push : (ns : List (List ℕ)) (n : List ℕ) → are_apart ns ≡ true → stands_in n ns ≡ false → are_apart (ns ++ n ∷ []) ≡ true
apart_push [] n h free = refl
apart_push (m ∷ ms) n h free =
    let both = and_parts (not (stands_in m ms)) (are_apart ms) h in
    let other = or_parts (same_name m n) (stands_in n ms) free in
    let ne : same_name n m ≡ false = same_turned n m ∙ other.0 in
    let out : stands_in m ms ≡ false = not-true (stands_in m ms) both.0 in
    and_from (not (stands_in m (ms ++ n ∷ []))) (are_apart (ms ++ n ∷ [])) (ap not (stands_push m ms n out ne)) (apart_push ms n both.1 other.1)
