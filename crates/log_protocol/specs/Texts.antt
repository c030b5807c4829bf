-- The text of what came.
use Rattle.std.specs.Prelude.{ℕ, ◌+◌, ◌==◌, Bool, ◌&&◌, not, List, [], ◌++◌, codes, length, slice_index_or, Option, None, Some, is_some, if◌then◌else◌, nat_lt, ◌||◌}
use Rattle.std.specs.Fmt.{decimal}
use Rattle.sig_types.specs.Turns.{History}
use Rattle.sig_types.specs.Rules.{Rules}
use Rattle.log_judge.specs.declared.protocol.Kind.{Kind}
use Rattle.log_judge.specs.declared.protocol.Kind.TheVariants.{Green, Red, RedAmber, Amber}
use Rattle.log_judge.specs.declared.protocol.Extremes.{Extremes}
use Rattle.log_protocol.specs.declared.together.Together.{Together}
use Rattle.log_protocol.specs.declared.text.Style.{Style}
use Rattle.log_protocol.specs.declared.text.Style.TheVariants.{Table, Lines}
use Rattle.judge_text.specs.declared.tick.Tick.{Tick}
use Rattle.judge_text.specs.Ticks.{ticks_text}
use Rattle.log_protocol.specs.Came.{Came, came_in, gather}

-- what a row of a group is of
abbrev pub kind_name : Style → Kind → List ℕ
kind_name Table Green = codes "green"
kind_name Table Red = codes "red"
kind_name Table RedAmber = codes "red_amber"
kind_name Table Amber = codes "amber"
kind_name Lines Green = codes "green"
kind_name Lines Red = codes "red"
kind_name Lines RedAmber = codes "red-amber"
kind_name Lines Amber = codes "amber"

-- its time in the table
abbrev pub time_of : Rules → Kind → ℕ → ℕ
time_of r Green g = r.minimum_green g
time_of r Red g = r.minimum_red g
time_of r RedAmber g = r.red_amber g
time_of r Amber g = r.amber g

-- the shortest with the second in which it was over, in words; the log's first second has this number
unfoldable pub shortest_text : Tick → ℕ → Extremes → List ℕ
shortest_text tick first x =
    codes " times, shortest " ++ ticks_text tick x.least ++ codes " s, over in second " ++ ticks_text tick (first + x.second)

-- how many there were, the shortest with the second in which it was over, and the longest
unfoldable pub numbers_text : Tick → Style → ℕ → Extremes → List ℕ
numbers_text tick Table first x =
    decimal x.count ++ (if x.count == 0 then codes ",,,"
    else codes "," ++ ticks_text tick x.least ++ codes "," ++ ticks_text tick (first + x.second) ++ codes "," ++ ticks_text tick x.most)
numbers_text tick Lines first x =
    if x.count == 0 then codes "never"
    else decimal x.count ++ shortest_text tick first x ++ codes ", longest " ++ ticks_text tick x.most ++ codes " s"

-- the rest of a row: these numbers, and what the table says
unfoldable pub rest_text : Tick → Style → ℕ → ℕ → Extremes → List ℕ
rest_text tick Table first needed x =
    codes "," ++ ticks_text tick needed ++ codes "," ++ numbers_text tick Table first x ++ codes "\n"
rest_text tick Lines first needed x =
    codes ": " ++ numbers_text tick Lines first x ++ codes "; " ++ ticks_text tick needed ++ codes " s in the table\n"

-- the beginning of a row of a group
abbrev pub run_label : Style → Kind → List ℕ → List ℕ
run_label Table kind name = kind_name Table kind ++ codes "," ++ name ++ codes ","
run_label Lines kind name = name ++ codes " " ++ kind_name Lines kind

-- the beginning of a row of a group that turns green, and one that ended
abbrev pub change_label : Style → (to from : List ℕ) → List ℕ
change_label Table to from = codes "intergreen," ++ to ++ codes "," ++ from
change_label Lines to from = to ++ codes " green after " ++ from

-- a row of a group
unfoldable pub run_text : Tick → Style → ℕ → Came → Rules → List ℕ → ℕ → Kind → List ℕ
run_text tick style first came r name g kind = run_label style kind name ++ rest_text tick style first (time_of r kind g) (came.runs kind g)

-- the rows of a group
unfoldable pub group_text : Tick → Style → ℕ → Came → Rules → List ℕ → ℕ → List ℕ
group_text tick style first came r name g =
    run_text tick style first came r name g Green ++ run_text tick style first came r name g Red
    ++ run_text tick style first came r name g RedAmber ++ run_text tick style first came r name g Amber

-- the name of a group
abbrev pub name_at : List (List ℕ) → ℕ → List ℕ
name_at names g = slice_index_or names g []

-- the row of a pair that the table has
unfoldable pub change_text : Tick → Style → ℕ → Came → List (List ℕ) → ℕ → ℕ → Option ℕ → List ℕ
change_text tick style first came names to from None = []
change_text tick style first came names to from (Some needed) =
    change_label style (name_at names to) (name_at names from) ++ rest_text tick style first needed (came.changes to from)

-- the table has no intergreen between the two groups
abbrev pub is_unlisted : Rules → ℕ → ℕ → Bool
is_unlisted r g i = not (is_some (r.between g i) || is_some (r.between i g))

-- the beginning of a row of two groups that were green together
abbrev pub together_label : Style → (one other : List ℕ) → List ℕ
together_label Table one other = codes "no_intergreen," ++ one ++ codes "," ++ other
together_label Lines one other = one ++ codes " and " ++ other

-- for how many seconds, and in which one first
abbrev pub together_rest : Tick → Style → ℕ → Together → List ℕ
together_rest tick Table first x = codes ",," ++ ticks_text tick x.seconds ++ codes ",," ++ ticks_text tick (first + x.first) ++ codes ",\n"
together_rest tick Lines first x =
    codes " green together: " ++ ticks_text tick x.seconds ++ codes " s, first in second " ++ ticks_text tick (first + x.first)
    ++ codes "; no intergreen in the table\n"

-- the row of two groups that were green together
abbrev pub together_text : Tick → Style → ℕ → (one other : List ℕ) → Together → List ℕ
together_text tick style first one other x = together_label style one other ++ together_rest tick style first x

-- each two groups are told once, where they were green together and the table has no intergreen between them
unfoldable pub greens_text : Tick → Style → ℕ → Came → List (List ℕ) → Rules → ℕ → ℕ → List ℕ
greens_text tick style first came names r g i =
    if nat_lt g i && is_unlisted r g i && not ((came.greens g i).seconds == 0)
    then together_text tick style first (name_at names g) (name_at names i) (came.greens g i)
    else []

-- the first line
unfoldable pub head_text : Tick → Style → ℕ → ℕ → List ℕ
head_text tick Table seconds first = codes "what,group,other,needed,count,shortest,second,longest\n"
head_text tick Lines seconds first =
    if seconds == 0 then codes "no second\n" else ticks_text tick seconds ++ codes " s from second " ++ ticks_text tick first ++ codes "\n"

-- the rows of all groups, of the pairs of the table, and of the groups that were green together without one
unfoldable pub came_text : Tick → Style → ℕ → Came → List (List ℕ) → Rules → List ℕ
came_text tick style first came names r =
    gather (λ g. group_text tick style first came r (name_at names g) g) (length names)
    ++ gather (λ to. gather (λ from. change_text tick style first came names to from (r.between from to)) (length names)) (length names)
    ++ gather (λ g. gather (λ i. greens_text tick style first came names r g i) (length names)) (length names)

-- the beginning of the row of what isn't known
abbrev pub unknown_label : Style → List ℕ
unknown_label Table = codes "unknown,,,,"
unknown_label Lines = codes "not known: "

-- the row of the stretches of which nothing is known, where there are some
abbrev pub unknown_text : Tick → Style → Extremes → List ℕ
unknown_text tick style x = if x.count == 0 then [] else unknown_label style ++ numbers_text tick style 0 x ++ codes "\n"

-- the page of a history, of groups with these names, by these rules; the log's first second has this number
unfoldable pub page_text : Tick → Style → ℕ → List (List ℕ) → Rules → History → List ℕ
page_text tick style first names r h = head_text tick style (length h) first ++ came_text tick style first (came_in h) names r
