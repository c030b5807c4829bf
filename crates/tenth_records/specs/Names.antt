-- The plan of groups alone.
use Rattle.std.specs.Prelude.{ℕ, suc, false, List, [], ◌∷◌, codes, length, replicate}
use Rattle.pua_model.specs.Plan.{PlanOf}

-- as many numbers as names, from this one on
unfoldable pub numbers_from : ℕ → List (List ℕ) → List ℕ
numbers_from n [] = []
numbers_from n (name ∷ names) = n ∷ numbers_from (suc n) names

-- groups with these names, numbered from 1, and one stage in which all are red
abbrev pub plan_of_names : List (List ℕ) → PlanOf
plan_of_names names = record {
  names = names;
  numbers = numbers_from 1 names;
  stage_names = codes "S" ∷ [];
  stages = replicate (length names) false ∷ [];
  start = 1;
  interstages = [];
}
