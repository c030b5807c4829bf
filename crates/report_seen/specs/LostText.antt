-- The text of lost starts: a line for each, or a table.
use Rattle.std.specs.Prelude.{ℕ, ◌-◌, Bool, List, [], ◌++◌, codes, Option, None, Some, if◌then◌else◌}
use Rattle.std.specs.List.{flat_map}
use Rattle.std.specs.Fmt.{decimal}
use Rattle.sig_types.specs.declared.numbers.GroupNo.{GroupNo}
use Rattle.signal_log.specs.Log.{name_of, rule_name}
use Rattle.report_seen.specs.declared.lost.LostStart.{LostStart}

-- the group, and from when on its start was asked for to when it wasn't any more
unfoldable pub lost_line : List (List ℕ) → LostStart → List ℕ
lost_line names start =
    codes "LOST " ++ name_of names start.group ++ codes " asked:" ++ decimal start.asked ++ codes " lost:" ++ decimal start.lost ++ codes "\n"

-- the group that stood in the way, where there is one
abbrev pub other_name : List (List ℕ) → Option GroupNo → List ℕ
other_name names None = []
other_name names (Some other) = name_of names other

-- the same with the seconds from the one to the other, the rule that refused it last, and the group that stood in its way
unfoldable pub lost_row : List (List ℕ) → LostStart → List ℕ
lost_row names start =
    name_of names start.group ++ codes "," ++ decimal start.asked ++ codes "," ++ decimal start.lost ++ codes ","
    ++ decimal (start.lost - start.asked) ++ codes "," ++ rule_name start.rule ++ codes "," ++ other_name names start.other ++ codes "\n"

-- the names of the columns
abbrev pub lost_head : List ℕ
lost_head = codes "group,asked,lost,seconds,rule,other\n"

-- a row for each
unfoldable pub lost_table : List (List ℕ) → List LostStart → List ℕ
lost_table names starts = lost_head ++ flat_map (lost_row names) starts

-- a table, or lines
abbrev pub lost_text : Bool → List (List ℕ) → List LostStart → List ℕ
lost_text csv names starts = if csv then lost_table names starts else flat_map (lost_line names) starts
