-- What a controller tells of its last record's list, and of its groups' names.
use Rattle.std.specs.Prelude.{◌≡◌, ◌≤◌, ◌<◌, ◌⊎◌, ℕ, List, [], length, slice_index_or, Option, Some, None}
use Rattle.std.specs.List.{slice_get}
use Rattle.sig_types.specs.RuleNumbers.{rule_number}
use Rattle.sig_types.specs.declared.refused.StageRefusal.{StageRefusal}
use Rattle.pua_model.specs.Plan.{groups_in}
use Rattle.controller.specs.Controls.{last_record, plan_of}
use Rattle.controller.specs.declared.controller.Controller.{Controller}
use Rattle.junction_calls.specs.declared.stage.RefusedStage.{RefusedStage}
use Rattle.junction_calls.specs.Copied.{IsCopied}

-- the name of the group at a place was copied, and n is its length; or there is none, and n is 0
abbrev pub IsGroupName : Option Controller → ℕ → ℕ → List ℕ → List ℕ → Type 0
IsGroupName None place n old new = (n ≡ 0) × (new ≡ old)
IsGroupName (Some c) place n old new =
    ((place < groups_in (plan_of c)) × (n ≡ length (slice_index_or (plan_of c).names place []))
    × IsCopied (slice_index_or (plan_of c).names place []) old new)
    ⊎ ((groups_in (plan_of c) ≤ place) × (n ≡ 0) × (new ≡ old))

-- a refused stage command in plain numbers
abbrev pub stage_numbers : StageRefusal → RefusedStage
stage_numbers r = record { from = r.from.0; to = r.to.0; rule = rule_number r.rule }

-- 0: the refused stage command at that place of the last record is told; 4: there is none, or nothing is held
abbrev pub IsStageTold : Option Controller → ℕ → ℕ → RefusedStage → RefusedStage → Type 0
IsStageTold None place n before told = (n ≡ 4) × (told ≡ before)
IsStageTold (Some c) place n before told =
    ((r : StageRefusal) × (n ≡ 0) × (slice_get (last_record c).stages place ≡ Some r) × (told ≡ stage_numbers r))
    ⊎ ((n ≡ 4) × (length (last_record c).stages ≤ place) × (told ≡ before))
