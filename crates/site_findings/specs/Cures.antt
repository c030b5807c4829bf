-- The cures of warnings: what to do about each.
use Rattle.std.specs.Prelude.{ℕ, List, codes}
use Rattle.plan_check.specs.declared.warnings.PlanWarning.{PlanWarning}
use Rattle.plan_check.specs.declared.warnings.PlanWarning.TheVariants as plan
use Rattle.program_check.specs.declared.lacks.Lack.{Lack}
use Rattle.program_check.specs.declared.lacks.Lack.TheVariants as lack
use Rattle.program_check.specs.declared.warnings.ProgramWarning.{ProgramWarning}
use Rattle.program_check.specs.declared.warnings.ProgramWarning.TheVariants as noted
use Rattle.site_findings.specs.declared.finding.Warning.{Warning}
use Rattle.site_findings.specs.declared.finding.Warning.TheVariants as warning

-- of a warning of the plan
abbrev pub plan_cure : PlanWarning → List ℕ
plan_cure (plan.StageWithoutWay stage lacking) = codes "add an interstage, or take the stage out"
plan_cure (plan.GroupNeverGreen group) = codes "put it into a stage; nothing, if `Sg_green` alone makes it green"
plan_cure (plan.SameGreens a b) = codes "the groups of one of the two; or take it out, and see that the stages behind it move up by one place"
plan_cure (plan.StageNeverLeft stage) = codes "the command that is missing, or the stage in it and in its condition; or take the stage out"
plan_cure (plan.StageNeverReached stage) = codes "the command that is missing, or the stage in it and in its condition; or take the stage out"
plan_cure plan.RedAmberAboveAmber = codes "exchange the two columns"
plan_cure (plan.StageInConflict stage a b) =
    codes "take one of them out of the stage; or take the pair out of the table, if the two are in no conflict"
plan_cure (plan.NoIntergreen a b) = codes "both ways into the table, with the seconds of the clearance; nothing, if the two may be green at once"
plan_cure (plan.ShortIntergreen from to seconds amber) = codes "the seconds of the clearance, the amber among them"
plan_cure (plan.InterstageNotClean inter end) = codes "a later R in the row of the group that is named first, and a longer interstage"
plan_cure (plan.LateRedEnd inter group late) = codes "an earlier R in its row; nothing, if the delay is wanted"

-- of what a name of a program lacks
abbrev pub lack_cure : Lack → List ℕ
lack_cure lack.Unassigned = codes "a misspelt name: mend it; a group or a stage by its name: write its number; a fixed value: declare it as `CONST`"
lack_cure lack.Unread = codes "a misspelt name: mend it; else take it out"
lack_cure lack.Unstarted = codes "`Start(timer)` where the time begins"
lack_cure lack.UnreadTimer = codes "a misspelt name: mend it; else take it out"
lack_cure lack.UnusedLabel = codes "use it where it is meant, or take it out"
lack_cure lack.UnusedConstant = codes "use it where it is meant, or take it out"
lack_cure lack.UnreadArray = codes "use it where it is meant, or take it out"
lack_cure lack.UncalledSub = codes "use it where it is meant, or take it out"

-- of a warning of the program
abbrev pub program_cure : ProgramWarning → List ℕ
program_cure (noted.Lacking what name) = lack_cure what
program_cure (noted.UnknownGroup n) = codes "groups go by their numbers in `$SIGNAL_GROUPS`"
program_cure (noted.UnknownStage n) = codes "stages go by their places in `$STAGES`, from 1"
program_cure (noted.UnknownDetector n) = codes "detectors are numbered 1 to 64"
program_cure (noted.MissingInterstage from to) = codes "add the interstage to the plan, or mend the command"
program_cure (noted.SilentDetector detector) = codes "the numbers of the detectors; nothing, if this recording has no vehicle there"
program_cure (noted.NeverCleared what detector) =
    codes "`Clear_front_ends(d)` or `Clear_rear_ends(d)` where the request is served; nothing, if vehicles are counted from the beginning on"
program_cure (noted.NoSetCycle kind) = codes "`Set_cycle(n)` in the first second"
program_cure (noted.UnreadDetector detector) = codes "the numbers of the detectors; nothing, if the program does without it"
program_cure (noted.WrongStage from active) = codes "the stage in the condition or in the command"
program_cure noted.ConstantCondition = codes "a variable in the place of the one, or take the comparison out"
program_cure noted.NeverTrue = codes "exchange the two bounds, or `OR`"
program_cure (noted.NameAsNumber what name) =
    codes "write the number, or declare the name as `CONST`; nothing, if the variable holds the number"
program_cure (noted.ConstantArgument n) = codes "0 to 9999 seconds"
program_cure (noted.ConstantIndex n array) = codes "1 to the size of the array"
program_cure noted.DivisionByZero = codes "another divisor"
program_cure (noted.CycleNameAssigned name) = codes "another name for the variable; `Set_cycle(n)` to set the cycle"
program_cure (noted.EndlessLoop label) =
    codes "a jump out of the loop within an `IF`; or take the jump out, since the program runs anew in each second"

-- of a warning
abbrev pub warning_cure : Warning → List ℕ
warning_cure (warning.Plan w) = plan_cure w
warning_cure (warning.Program w) = program_cure w
warning_cure (warning.MisspeltSection word) = codes "the word as in formats.md; another word in a real comment"
warning_cure warning.BehindEnd = codes "take the `$END` above out, or the section"
