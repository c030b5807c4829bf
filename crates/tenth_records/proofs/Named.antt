-- The names of a header are those of a plan.
use Rattle.std.proofs.Common.{◌≡◌, ◌==◌, ℕ, ◌+◌, ◌≤◌, Bool, true, false, not, ◌&&◌, List, [], ◌∷◌, ◌++◌, length, Option, Some, None, refl, sym, ap, ◌∙◌, subst, arith, nat_lt, if◌then◌else◌}
use Rattle.std.specs.Prelude.{fold, IfSome, MatchOption}
use Rattle.std.specs.List.{slice_split}
use Rattle.std.proofs.lemmas.List.Splits.{length-slice_split}
use Rattle.std.proofs.Math.ListN.{length-append}
use Rattle.std.proofs.lemmas.Bool.{and_parts, not-true, ltb-true}
use Rattle.sig_types.specs.Text.{is_name}
use Rattle.pua_model.specs.Plan as plan
use Rattle.pua_model.specs.Plan.{are_apart, are_names}
use Rattle.pua_reader.proofs.Small.{apart_push, names_push}
use Rattle.log_read.specs.Fields.{listed_names, stands_in, with_name}

-- names that are names, apart and few
pub record AreNamed (names : List (List ℕ)) : Type 0 where
  pub named : are_names names ≡ true
  pub apart : are_apart names ≡ true
  pub few : length names ≤ 64

-- the two ways to say that a name stands among others
same_stands : (word : List ℕ) (names : List (List ℕ)) → plan.stands_in word names ≡ stands_in word names
same_stands word [] = refl
same_stands word (n ∷ ns) = rw (same_stands word ns) refl

-- one name more
named_more : (names : List (List ℕ)) (word : List ℕ) → AreNamed names → is_name word && nat_lt (length names) 64 && not (stands_in word names) ≡ true →
    AreNamed (names ++ word ∷ [])
named_more names word are is =
    let both = and_parts (is_name word && nat_lt (length names) 64) (not (stands_in word names)) is in
    let front = and_parts (is_name word) (nat_lt (length names) 64) both.0 in
    let free : plan.stands_in word names ≡ false = same_stands word names ∙ not-true (stands_in word names) both.1 in
    record {
      named = names_push names word are.named front.0;
      apart = apart_push names word are.apart free;
      few = omega (arith, length-append names (word ∷ []), ltb-true (length names) 64 front.1);
    }

-- none are named behind a name that isn't right
none_named : (words : List (List ℕ)) → fold with_name None words ≡ None
none_named [] = refl
none_named (w ∷ ws) = none_named ws

-- so many names and those of a list
pub all_named : (words names found : List (List ℕ)) → AreNamed names → fold with_name (Some names) words ≡ Some found →
    AreNamed found × (length names + length words ≡ length found)
all_named [] names found are is =
    let same : names ≡ found = cc in
    (subst (λ (xs : List (List ℕ)). AreNamed xs) same are, omega (arith, ap length same))
all_named (w ∷ ws) names found are is =
    go (λ next s. all_named ws (names ++ w ∷ []) found next s) (is_name w && nat_lt (length names) 64 && not (stands_in w names)) refl is
  where
    go : (AreNamed (names ++ w ∷ []) → fold with_name (Some (names ++ w ∷ [])) ws ≡ Some found → AreNamed found × (length (names ++ w ∷ []) + length ws ≡ length found)) →
        (b : Bool) → is_name w && nat_lt (length names) 64 && not (stands_in w names) ≡ b →
        fold with_name (if b then Some (names ++ w ∷ []) else None) ws ≡ Some found →
        AreNamed found × (length names + length (w ∷ ws) ≡ length found)
    go more true e s =
        let next = more (named_more names w are e) s in
        (next.0, omega (arith, next.1, length-append names (w ∷ [])))
    go more false e s =
        let nothing : None ≡ Some found = sym (none_named ws) ∙ s in
        absurd (cc)

-- the names of a list are names, apart and few, and there is one
pub listed : (list : List ℕ) (found : List (List ℕ)) → listed_names list ≡ Some found → AreNamed found × (1 ≤ length found)
listed list found is =
    let all = all_named (slice_split (λ b. b == 32) list) [] found (record { named = refl; apart = refl; few = omega arith }) is in
    (all.0, omega (arith, all.1, length-slice_split (λ b. b == 32) list))

-- what holds of something that is found
pub of_found : {V : Type 0} (found : Option V) (none : Type 0) (is so : V → Type 0) → ((v : V) → is v → so v) → MatchOption found none is → IfSome found so
of_found None none is so from what = tt
of_found (Some v) none is so from what = from v what
