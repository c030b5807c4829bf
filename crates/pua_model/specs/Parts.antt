-- The plan of its parts, and the table in which it looks up a group by its number.
use Rattle.std.specs.Prelude.{◌≡◌, ◌==◌, ◌<◌, ℕ, List, map, length, slice_index_or, Option, None}
use Rattle.std.specs.List.{position}
use Rattle.sig_types.specs.declared.numbers.GroupNo.{GroupNo}
use Rattle.pua_model.specs.declared.parts.Group.{Group}
use Rattle.pua_model.specs.declared.parts.Stage.{Stage}
use Rattle.pua_model.specs.Plan.{InterstageOf, PlanOf, group_number}

-- the plan that has these groups, stages and interstages, and starts in this stage
abbrev pub plan_of : List Group → List Stage → ℕ → List InterstageOf → PlanOf
plan_of groups stages start interstages = record {
  names = map (λ g. g.name) groups;
  numbers = map (λ g. g.number) groups;
  stage_names = map (λ s. s.name) stages;
  stages = map (λ s. s.greens) stages;
  start = start;
  interstages = interstages;
}

-- for each number from 0 to 255 the place of the group that has it
pub record ArePlaces (places : List (Option GroupNo)) (groups : List Group) : Type 0 where
  pub size : length places ≡ 256
  pub each : (n : ℕ) → n < 256 → group_number (slice_index_or places n None) ≡ position (λ g. g.number == n) groups
