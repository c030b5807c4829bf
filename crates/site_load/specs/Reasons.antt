-- Why a file of a site is refused, as a note tells it.
use Rattle.std.specs.Prelude.{ℕ, List, ◌++◌, codes}
use Rattle.std.specs.Fmt.{decimal}
use Rattle.pua_model.specs.Plan.{name_of}
use Rattle.pua_reader.specs.declared.refusal.PuaWhy.{PuaWhy}
use Rattle.pua_reader.specs.declared.refusal.PuaWhy.TheVariants as pua
use Rattle.sig_tables.specs.declared.refusal.TableWhy.{TableWhy}
use Rattle.sig_tables.specs.declared.refusal.TableWhy.TheVariants as table
use Rattle.site_load.specs.declared.reason.ReasonText.{ReasonText}
use Rattle.site_load.specs.declared.stop.Reason.{Reason}
use Rattle.site_load.specs.declared.stop.Reason.TheVariants.{Pua, Table}

-- the reason of a refused plan; an inconsistent interstage with its number and the group's name
abbrev pub plan_reason : PuaWhy → List ℕ
plan_reason pua.NotText = codes "NotText"
plan_reason pua.Section = codes "Section"
plan_reason pua.Row = codes "Row"
plan_reason pua.NameTwice = codes "NameTwice"
plan_reason pua.UnknownName = codes "UnknownName"
plan_reason pua.Range = codes "Range"
plan_reason pua.NoStart = codes "NoStart"
plan_reason pua.PairTwice = codes "PairTwice"
plan_reason (pua.Inconsistent inter group name) = codes "Inconsistent " ++ decimal inter ++ codes " " ++ name
plan_reason pua.Limit = codes "Limit"

-- the reason of a refused table, with the names of the groups that it speaks of
abbrev pub table_reason : List (List ℕ) → TableWhy → List ℕ
table_reason names table.Header = codes "Header"
table_reason names table.Fields = codes "Fields"
table_reason names table.Number = codes "Number"
table_reason names table.UnknownName = codes "UnknownName"
table_reason names table.Twice = codes "Twice"
table_reason names (table.Missing group) = codes "Missing " ++ name_of names group
table_reason names (table.OneWay from to) = codes "OneWay " ++ name_of names from ++ codes " " ++ name_of names to
table_reason names table.SelfConflict = codes "SelfConflict"

-- the text of a reason
abbrev pub reason_text : Reason → List ℕ
reason_text (Pua why) = plan_reason why
reason_text (Table why plan) = table_reason plan.names why

-- the text of the pieces of a reason
abbrev pub told_text : ReasonText → List ℕ
told_text told = told.name.now ++ told.blank.now ++ told.first.now ++ told.gap.now ++ told.second.now
