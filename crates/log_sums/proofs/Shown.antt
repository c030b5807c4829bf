-- A list of tallies that is changed at one place.
use Rattle.std.proofs.Common.{◌≡◌, ◌∙◌, ◌≢◌, ℕ, zero, suc, ◌+◌, ◌<◌, ◌≤◌, Bool, true, false, eqb, List, [], ◌∷◌, ◌++◌, get_or, set, take, drop, length, map, refl, sym, ap, subst, arith, eqb-true, eq-eqb}
use Rattle.std.specs.Prelude.{fold}
use Rattle.std.proofs.lemmas.List.{get_or-set_other, get_or-set_same, take-append-le, take_all}
use Rattle.log_sums.specs.declared.tally.Tally.{Tally}
use Rattle.log_sums.specs.Tallies.{keys_to, with_key}

-- the keys are as before where the key at the place is
pub same_keys : (K : Type 0) (xs : List (Tally K)) (i : ℕ) (y d : Tally K) → y.key ≡ (get_or xs i d).key →
    map (λ (x : Tally K). x.key) (set xs i y) ≡ map (λ (x : Tally K). x.key) xs
same_keys K [] i y d same = refl
same_keys K (x ∷ xs) zero y d same = ap (λ (k : K). k ∷ map (λ (x : Tally K). x.key) xs) same
same_keys K (x ∷ xs) (suc i) y d same = ap (λ (ks : List K). x.key ∷ ks) (same_keys K xs i y d same)

at_or_before : (K : Type 0) (P : Tally K → Type 0) (xs : List (Tally K)) (i : ℕ) (y : Tally K) → i < length xs → P y →
    (j : ℕ) (d : Tally K) (here : Bool) → eqb j i ≡ here → (j < i → P (get_or xs j d)) → j < i + 1 → P (get_or (set xs i y) j d)
at_or_before K P xs i y inside is j d true e before less =
    subst P (sym (ap (λ (k : ℕ). get_or (set xs i y) k d) (eqb-true j i e) ∙ get_or-set_same xs i y d inside)) is
at_or_before K P xs i y inside is j d false e before less =
    let other : j ≢ i = λ same. (let both : true ≡ false = sym (eq-eqb j i same) ∙ e in cc) in
    subst P (sym (get_or-set_other xs i j y d other)) (before (omega (arith, other, less)))

-- what holds of the tallies before a place, and of the one there
pub shown_more : (K : Type 0) (P : Tally K → Type 0) (xs : List (Tally K)) (i : ℕ) (y : Tally K) → i < length xs → P y →
    ((j : ℕ) (d : Tally K) → j < i → P (get_or xs j d)) → (j : ℕ) (d : Tally K) → j < i + 1 → P (get_or (set xs i y) j d)
shown_more K P xs i y inside is before j d less = at_or_before K P xs i y inside is j d (eqb j i) refl (before j d) less

-- the tallies behind a place are as before
pub rest_more : (K : Type 0) (xs : List (Tally K)) (i j : ℕ) (y d : Tally K) → i + 1 ≤ j → get_or (set xs i y) j d ≡ get_or xs j d
rest_more K xs i j y d behind = let other : j ≢ i = omega arith in get_or-set_other xs i j y d other

-- what came in a second more
pub keys_next : (K : Type 0) (code : K → ℕ) (items : ℕ → List K) (n second : ℕ) → suc n ≡ second →
    keys_to code items second ≡ fold (with_key code) (keys_to code items n) (items second)
keys_next K code items n second next = subst (λ s. keys_to code items s ≡ fold (with_key code) (keys_to code items n) (items s)) next refl

-- a slice of a whole list, written back
pub written_back : {A : Type 0} (xs ys : List A) (n : ℕ) → n ≡ length ys → length xs ≡ length ys → take n (xs ++ drop (length xs) ys) ≡ xs
written_back xs ys n size same =
    let most : n ≤ length xs = omega arith in
    let all : length xs ≤ n = omega arith in
    take-append-le n xs (drop (length xs) ys) most ∙ take_all n xs all
