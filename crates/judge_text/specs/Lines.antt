-- The words of breaches, a line for each.
use Rattle.std.specs.Prelude.{ℕ, ◌+◌, ◌-◌, ◌==◌, List, ◌++◌, codes, length, nat_lt, if◌then◌else◌}
use Rattle.std.specs.List.{flat_map}
use Rattle.std.specs.Fmt.{decimal}
use Rattle.sig_types.specs.declared.aspect.Aspect.{Aspect}
use Rattle.sig_types.specs.declared.aspect.Aspect.TheVariants.{Red, RedAmber, Green, Amber}
use Rattle.sig_types.specs.declared.numbers.GroupNo.{GroupNo}
use Rattle.pua_model.specs.Plan.{name_of}
use Rattle.log_judge.specs.declared.breach.Breach.{Breach}
use Rattle.log_judge.specs.declared.breach.Breach.TheVariants.{Step, Short, Long, Conflict, Intergreen, Hidden}
use Rattle.judge_text.specs.declared.tick.Tick.{Tick}
use Rattle.judge_text.specs.declared.tick.Tick.TheVariants.{Second}
use Rattle.judge_text.specs.Ticks.{ticks_text}
use Rattle.judge_text.specs.Sums.{sums_text}
use Rattle.judge_text.specs.Words.{head_text}

-- the name of an aspect
abbrev pub aspect_name : Aspect → List ℕ
aspect_name Red = codes "red"
aspect_name RedAmber = codes "red-amber"
aspect_name Green = codes "green"
aspect_name Amber = codes "amber"

-- what it should have lasted: red and green have a least time, red-amber and amber their own
abbrev pub time_name : Aspect → List ℕ
time_name Red = codes " s; minimum "
time_name RedAmber = codes " s; time "
time_name Green = codes " s; minimum "
time_name Amber = codes " s; time "

-- an aspect from a second on, how long it lasted, and what it should have
abbrev pub lasted_text : Tick → ℕ → Aspect → ℕ → ℕ → ℕ → List ℕ
lasted_text tick first aspect from to needed =
    codes ": " ++ aspect_name aspect ++ codes " from second " ++ ticks_text tick (first + from) ++ codes " for " ++ ticks_text tick (to - from)
    ++ time_name aspect ++ ticks_text tick needed ++ codes " s"

-- A group is green at this place, or turns green there at the latest where the log ends before it: a log has so many pictures.
abbrev pub green_text : Tick → ℕ → ℕ → ℕ → List ℕ
green_text tick first pictures second =
    if nat_lt second pictures then codes " is green in second " ++ ticks_text tick (first + second)
    else codes " is red-amber, green in second " ++ ticks_text tick (first + second) ++ codes " at the latest"

-- an end, and a green too soon after it
abbrev pub cleared_text : List (List ℕ) → Tick → ℕ → ℕ → ℕ → GroupNo → GroupNo → ℕ → ℕ → List ℕ
cleared_text names tick first pictures second group other ended least =
    codes " " ++ name_of names other ++ codes ": " ++ name_of names other ++ codes " ended in second " ++ ticks_text tick (first + ended) ++ codes ", "
    ++ name_of names group ++ green_text tick first pictures second ++ codes ", " ++ ticks_text tick (second - ended) ++ codes " s later; intergreen "
    ++ ticks_text tick least ++ codes " s"

-- A green at this place, or so many seconds before the first picture, with what passed since an end so many seconds before it.
abbrev pub behind_text : Tick → ℕ → ℕ → ℕ → ℕ → ℕ → List ℕ
behind_text tick first pictures second ended before =
    if before == 0
    then green_text tick first pictures second ++ codes ", at most " ++ ticks_text tick (second + ended - before) ++ codes " s later"
    else codes " turned green at least " ++ ticks_text tick before ++ codes " s before it"

-- an end that lies before the log, and a green too soon after it
abbrev pub hidden_text : List (List ℕ) → Tick → ℕ → ℕ → ℕ → GroupNo → GroupNo → ℕ → ℕ → ℕ → List ℕ
hidden_text names tick first pictures second group other ended before least =
    codes " " ++ name_of names other ++ codes ": " ++ name_of names other ++ codes " ended at most " ++ ticks_text tick ended ++ codes " s before second "
    ++ ticks_text tick first ++ codes ", " ++ name_of names group ++ behind_text tick first pictures second ended before ++ codes "; intergreen "
    ++ ticks_text tick least ++ codes " s"

-- what shows a breach
abbrev pub evidence_text : List (List ℕ) → Tick → ℕ → ℕ → Breach → List ℕ
evidence_text names tick first pictures (Step second group was is) = codes ": " ++ aspect_name is ++ codes " after " ++ aspect_name was
evidence_text names tick first pictures (Short second group aspect since least) = lasted_text tick first aspect since second least
evidence_text names tick first pictures (Long second group aspect since most) = lasted_text tick first aspect since second most
evidence_text names tick first pictures (Conflict second group other since) =
    codes " " ++ name_of names other ++ codes ": both on from second " ++ ticks_text tick (first + since) ++ codes " for " ++ ticks_text tick (second - since) ++ codes " s"
evidence_text names tick first pictures (Intergreen second group other ended least) =
    cleared_text names tick first pictures second group other ended least
evidence_text names tick first pictures (Hidden second group other ended before least) =
    hidden_text names tick first pictures second group other ended before least

-- the line of a breach
unfoldable pub line_text : List (List ℕ) → Tick → ℕ → ℕ → Breach → List ℕ
line_text names tick first pictures breach =
    head_text names tick first (codes " ") breach ++ evidence_text names tick first pictures breach ++ codes "\n"

-- the whole text, of a log of these groups whose first picture has this second, and that has so many: a line for each breach, and
-- then how many seconds and breaches there are, and how often each rule was broken
unfoldable pub breaches_text : List (List ℕ) → ℕ → ℕ → List Breach → List ℕ
breaches_text names first pictures found =
    flat_map (line_text names Second first pictures) found
    ++ codes "SECONDS " ++ decimal pictures ++ codes "\nBREACHES " ++ decimal (length found) ++ codes "\n" ++ sums_text names found
