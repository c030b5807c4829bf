-- How often each rule was broken, by each group or each two groups.
use Rattle.std.specs.Prelude.{ℕ, zero, suc, ◌==◌, Bool, true, false, ◌&&◌, List, [], ◌++◌, codes, length, count_by, Option, None, Some, if◌then◌else◌}
use Rattle.std.specs.Fmt.{decimal}
use Rattle.sig_types.specs.declared.aspect.Rule.{Rule}
use Rattle.sig_types.specs.declared.aspect.Rule.TheVariants.{Sequence, MinGreen, MinRed, Conflict, Intergreen}
use Rattle.sig_types.specs.declared.numbers.GroupNo.{GroupNo}
use Rattle.sig_types.specs.RuleNumbers.{rule_number}
use Rattle.pua_model.specs.Plan.{name_of}
use Rattle.signal_log.specs.Log.{rule_name}
use Rattle.log_judge.specs.declared.breach.Breach.{Breach}
use Rattle.judge_text.specs.Words.{group_of, other_of, rule_of}

-- the same other group, or none
abbrev pub same_other : Option GroupNo → Option GroupNo → Bool
same_other None None = true
same_other None (Some b) = false
same_other (Some a) None = false
same_other (Some a) (Some b) = a.0 == b.0

-- the breach is of this rule, this group and this other one
abbrev pub is_of : Rule → GroupNo → Option GroupNo → Breach → Bool
is_of rule group other breach =
    (rule_number (rule_of breach) == rule_number rule) && ((group_of breach).0 == group.0 && same_other (other_of breach) other)

-- how often they broke it
abbrev pub times : List Breach → Rule → GroupNo → Option GroupNo → ℕ
times found rule group other = count_by (is_of rule group other) found

-- the other group after a space, where there is one
abbrev pub other_text : List (List ℕ) → Option GroupNo → List ℕ
other_text names None = []
other_text names (Some other) = codes " " ++ name_of names other

-- a line of how often, where it came
unfoldable pub sum_text : List (List ℕ) → List Breach → Rule → GroupNo → Option GroupNo → List ℕ
sum_text names found rule group other =
    if times found rule group other == 0 then []
    else codes "SUM " ++ rule_name rule ++ codes " " ++ name_of names group ++ other_text names other ++ codes " times:"
    ++ decimal (times found rule group other) ++ codes "\n"

-- the lines of a rule that speaks of one group, for the first n groups
unfoldable pub alone_to : List (List ℕ) → List Breach → Rule → ℕ → List ℕ
alone_to names found rule zero = []
alone_to names found rule (suc n) = alone_to names found rule n ++ sum_text names found rule (record { 0 = n }) None

-- the lines of a rule that speaks of two, for one group and the first n others
unfoldable pub others_to : List (List ℕ) → List Breach → Rule → GroupNo → ℕ → List ℕ
others_to names found rule group zero = []
others_to names found rule group (suc n) =
    others_to names found rule group n ++ sum_text names found rule group (Some (record { 0 = n }))

-- and for the first n groups
unfoldable pub pairs_to : List (List ℕ) → List Breach → Rule → ℕ → List ℕ
pairs_to names found rule zero = []
pairs_to names found rule (suc n) = pairs_to names found rule n ++ others_to names found rule (record { 0 = n }) (length names)

-- the lines of all rules
unfoldable pub sums_text : List (List ℕ) → List Breach → List ℕ
sums_text names found =
    alone_to names found Sequence (length names)
    ++ alone_to names found MinGreen (length names)
    ++ alone_to names found MinRed (length names)
    ++ pairs_to names found Conflict (length names)
    ++ pairs_to names found Intergreen (length names)
