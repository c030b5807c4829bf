-- The table of breaches, a row for each.
use Rattle.std.specs.Prelude.{ℕ, ◌+◌, ◌-◌, List, [], ◌∷◌, ◌++◌, codes}
use Rattle.std.specs.List.{flat_map}
use Rattle.sig_types.specs.LogForm.{letter}
use Rattle.pua_model.specs.Plan.{name_of}
use Rattle.log_judge.specs.declared.breach.Breach.{Breach}
use Rattle.log_judge.specs.declared.breach.Breach.TheVariants.{Step, Short, Long, Conflict, Intergreen, Hidden}
use Rattle.judge_text.specs.declared.tick.Tick.{Tick}
use Rattle.judge_text.specs.declared.tick.Tick.TheVariants.{Second}
use Rattle.judge_text.specs.Ticks.{ticks_text}
use Rattle.judge_text.specs.Words.{head_text}

-- the names of the columns
abbrev pub columns_text : List ℕ
columns_text = codes "second,rule,group,other,shown,since,seconds,needed\n"

-- since when, how long up to before this place, and what is needed
abbrev pub span_text : Tick → ℕ → ℕ → ℕ → List ℕ
span_text tick first from to = ticks_text tick (first + from) ++ codes "," ++ ticks_text tick (to - from) ++ codes ","

-- the fields behind the group: the other group, what is shown, since when, how many seconds, and how many are needed
abbrev pub fields_text : List (List ℕ) → Tick → ℕ → Breach → List ℕ
fields_text names tick first (Step second group was is) = codes "," ++ (letter was ∷ letter is ∷ []) ++ codes ",,,"
fields_text names tick first (Short second group aspect since least) =
    codes "," ++ (letter aspect ∷ []) ++ codes "," ++ span_text tick first since second ++ ticks_text tick least
fields_text names tick first (Long second group aspect since most) =
    codes "," ++ (letter aspect ∷ []) ++ codes "," ++ span_text tick first since second ++ ticks_text tick most
fields_text names tick first (Conflict second group other since) = name_of names other ++ codes ",," ++ span_text tick first since second
fields_text names tick first (Intergreen second group other ended least) =
    name_of names other ++ codes ",," ++ span_text tick first ended second ++ ticks_text tick least
fields_text names tick first (Hidden second group other ended before least) =
    name_of names other ++ codes ",,," ++ ticks_text tick (second + ended - before) ++ codes "," ++ ticks_text tick least

-- the row of a breach
unfoldable pub row_text : List (List ℕ) → Tick → ℕ → Breach → List ℕ
row_text names tick first breach = head_text names tick first (codes ",") breach ++ codes "," ++ fields_text names tick first breach ++ codes "\n"

-- the whole table, of a log of these groups whose first picture has this second
unfoldable pub table_text : List (List ℕ) → ℕ → List Breach → List ℕ
table_text names first found = columns_text ++ flat_map (row_text names Second first) found
