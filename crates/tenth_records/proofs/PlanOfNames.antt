-- A plan of names is one.
use Rattle.std.proofs.Common.{◌≡◌, ℕ, map, zero, suc, ◌+◌, ◌<◌, ◌≤◌, true, false, ◌&&◌, List, [], ◌∷◌, ◌++◌, length, refl, ap, ◌∙◌, arith, nat_lt, nat_le, replicate, get_or}
use Rattle.std.proofs.lemmas.Bool.{and_from, le-leb, lt-ltb}
use Rattle.std.proofs.lemmas.List.{length-replicate}
use Rattle.std.specs.Prelude.{codes}
use Rattle.pua_model.specs.declared.parts.Group.{Group}
use Rattle.pua_model.specs.declared.parts.Stage.{Stage}
use Rattle.pua_model.specs.Parts.{plan_of}
use Rattle.pua_model.specs.Plan.{InterstageOf, IsPlan, is_above}
use Rattle.tenth_records.specs.Names.{numbers_from, plan_of_names}
use Rattle.tenth_records.proofs.Named.{AreNamed}

-- as many numbers as names
pub count_numbers : (n : ℕ) (names : List (List ℕ)) → length (numbers_from n names) ≡ length names
unfolding numbers_from
count_numbers n [] = refl
count_numbers n (x ∷ xs) = ap suc (count_numbers (suc n) xs)

-- the numbers of one name more
pub more_numbers : (n : ℕ) (names : List (List ℕ)) (name : List ℕ) →
    numbers_from n (names ++ name ∷ []) ≡ numbers_from n names ++ (n + length names) ∷ []
unfolding numbers_from
more_numbers n [] name = ap (λ (k : ℕ). k ∷ []) (omega arith)
more_numbers n (x ∷ xs) name = ap (λ ks. n ∷ ks) (more_numbers (suc n) xs name
    ∙ ap (λ (k : ℕ). numbers_from (suc n) xs ++ k ∷ []) (omega arith))

-- the numbers rise
rising : (n : ℕ) (names : List (List ℕ)) → n + length names ≤ 255 → is_above n (numbers_from (suc n) names) ≡ true
unfolding numbers_from
rising n [] few = refl
rising n (x ∷ xs) few =
    and_from (nat_lt n (suc n) && nat_le (suc n) 255) (is_above (suc n) (numbers_from (suc (suc n)) xs))
    (and_from (nat_lt n (suc n)) (nat_le (suc n) 255) (lt-ltb n (suc n) (omega arith)) (le-leb (suc n) 255 (omega (arith, few))))
    (rising (suc n) xs (omega (arith, few)))

-- the one stage has a place for each group
stage_is : (names : List (List ℕ)) (s : ℕ) → s < 1 → length (get_or (replicate (length names) false ∷ []) s []) ≡ length names
stage_is names zero lt = length-replicate (length names) false
stage_is names (suc s) lt = absurd (omega (arith, lt))

pub is_plan : (names : List (List ℕ)) → 1 ≤ length names → AreNamed names → IsPlan (plan_of_names names)
is_plan names some are = record {
  has_groups = some;
  groups_at_most = are.few;
  numbered = count_numbers 1 names;
  names = are.named;
  apart = are.apart;
  rising = rising 0 names (omega (arith, are.few));
  stages_at_most = omega arith;
  named_stages = refl;
  stages = stage_is names;
  stage_names = refl;
  stages_apart = refl;
  start = (omega arith, omega arith);
  interstages_at_most = omega arith;
  pairs_apart = refl;
  interstages = λ i lt. absurd (omega (arith, lt));
}

-- the parts of the plan of names
pub of_parts : (names : List (List ℕ)) (groups : List Group) (stages : List Stage) (interstages : List InterstageOf) → map (λ g. g.name) groups ≡ names →
    map (λ g. g.number) groups ≡ numbers_from 1 names → map (λ s. s.name) stages ≡ codes "S" ∷ [] → map (λ s. s.greens) stages ≡ replicate (length names) false ∷ [] →
    interstages ≡ [] → plan_of groups stages 1 interstages ≡ plan_of_names names
of_parts names groups stages interstages named numbered stage greens none = rw (named, numbered, stage, greens, none) refl
