-- What a breach speaks of.
use Rattle.std.specs.Prelude.{ℕ, ◌+◌, List, ◌++◌, Option, None, Some}
use Rattle.sig_types.specs.declared.aspect.Aspect.{Aspect}
use Rattle.sig_types.specs.declared.aspect.Aspect.TheVariants.{Red, RedAmber, Green, Amber}
use Rattle.sig_types.specs.declared.aspect.Rule.{Rule}
use Rattle.sig_types.specs.declared.aspect.Rule.TheVariants as rule
use Rattle.sig_types.specs.declared.numbers.GroupNo.{GroupNo}
use Rattle.pua_model.specs.Plan.{name_of}
use Rattle.signal_log.specs.Log.{rule_name}
use Rattle.log_judge.specs.declared.breach.Breach.{Breach}
use Rattle.log_judge.specs.declared.breach.Breach.TheVariants.{Step, Short, Long, Conflict, Intergreen, Hidden}
use Rattle.judge_text.specs.declared.tick.Tick.{Tick}
use Rattle.judge_text.specs.Ticks.{ticks_text}

-- the rule that an aspect of another length breaks
abbrev pub aspect_rule : Aspect → Rule
aspect_rule Red = rule.MinRed
aspect_rule RedAmber = rule.Sequence
aspect_rule Green = rule.MinGreen
aspect_rule Amber = rule.Sequence

-- the rule that is broken
abbrev pub rule_of : Breach → Rule
rule_of (Step second group was is) = rule.Sequence
rule_of (Short second group aspect since least) = aspect_rule aspect
rule_of (Long second group aspect since most) = aspect_rule aspect
rule_of (Conflict second group other since) = rule.Conflict
rule_of (Intergreen second group other ended least) = rule.Intergreen
rule_of (Hidden second group other ended before least) = rule.Intergreen

-- the group that breaks it
abbrev pub group_of : Breach → GroupNo
group_of (Step second group was is) = group
group_of (Short second group aspect since least) = group
group_of (Long second group aspect since most) = group
group_of (Conflict second group other since) = group
group_of (Intergreen second group other ended least) = group
group_of (Hidden second group other ended before least) = group

-- the other group of a rule that speaks of two
abbrev pub other_of : Breach → Option GroupNo
other_of (Step second group was is) = None
other_of (Short second group aspect since least) = None
other_of (Long second group aspect since most) = None
other_of (Conflict second group other since) = Some other
other_of (Intergreen second group other ended least) = Some other
other_of (Hidden second group other ended before least) = Some other

-- the place of the second in which it is complete
abbrev pub second_of : Breach → ℕ
second_of (Step second group was is) = second
second_of (Short second group aspect since least) = second
second_of (Long second group aspect since most) = second
second_of (Conflict second group other since) = second
second_of (Intergreen second group other ended least) = second
second_of (Hidden second group other ended before least) = second

-- the second as a log numbers it whose first picture has this one, the rule and the group, with this between them
unfoldable pub head_text : List (List ℕ) → Tick → ℕ → List ℕ → Breach → List ℕ
head_text names tick first between breach =
    ticks_text tick (first + second_of breach) ++ between ++ rule_name (rule_of breach) ++ between ++ name_of names (group_of breach)
