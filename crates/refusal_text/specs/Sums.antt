-- How long was waited for what.
use Rattle.std.specs.Prelude.{ℕ, zero, suc, ◌==◌, List, [], ◌++◌, codes, length, Option, None, Some, if◌then◌else◌}
use Rattle.std.specs.Fmt.{decimal}
use Rattle.sig_types.specs.declared.aspect.Rule.{Rule}
use Rattle.sig_types.specs.declared.aspect.Rule.TheVariants.{Sequence, MinGreen, MinRed, Conflict, Intergreen, Running, WrongStage, NoInterstage}
use Rattle.sig_types.specs.declared.numbers.GroupNo.{GroupNo}
use Rattle.pua_model.specs.Plan.{name_of}
use Rattle.signal_log.specs.Log.{rule_name}
use Rattle.refusal_text.specs.declared.refusal.Refusal.{Refusal}
use Rattle.refusal_text.specs.Waits.{longest, runs, times}

-- the group before a space, where there is one
abbrev pub owner_text : List (List ℕ) → Option GroupNo → List ℕ
owner_text names None = []
owner_text names (Some group) = name_of names group ++ codes " "

-- a line of how often and how long, where it came
unfoldable pub sum_text : List (List ℕ) → List Refusal → Option GroupNo → Rule → List ℕ
sum_text names found group rule =
    if times found group rule == 0 then []
    else codes "SUM " ++ owner_text names group ++ rule_name rule ++ codes " times:" ++ decimal (times found group rule) ++ codes " runs:"
    ++ decimal (runs found group rule) ++ codes " longest:" ++ decimal (longest found group rule) ++ codes "\n"

-- the lines of a group
unfoldable pub group_text : List (List ℕ) → List Refusal → Option GroupNo → List ℕ
group_text names found group =
    sum_text names found group Sequence ++ sum_text names found group MinGreen ++ sum_text names found group MinRed
    ++ sum_text names found group Conflict ++ sum_text names found group Intergreen

-- the lines of stage commands
unfoldable pub commands_text : List (List ℕ) → List Refusal → List ℕ
commands_text names found =
    sum_text names found None Running ++ sum_text names found None WrongStage ++ sum_text names found None NoInterstage

-- the lines of the first n groups
unfoldable pub groups_to : List (List ℕ) → List Refusal → ℕ → List ℕ
groups_to names found zero = []
groups_to names found (suc n) = groups_to names found n ++ group_text names found (Some (record { 0 = n }))

-- all lines
unfoldable pub sums_text : List (List ℕ) → List Refusal → List ℕ
sums_text names found = groups_to names found (length names) ++ commands_text names found
