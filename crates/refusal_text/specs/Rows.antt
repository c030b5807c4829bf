-- The table of refusals, a row for each.
use Rattle.std.specs.Prelude.{ℕ, ◌+◌, ◌-◌, List, [], ◌++◌, codes, Option, None, Some}
use Rattle.std.specs.List.{flat_map}
use Rattle.std.specs.Fmt.{decimal}
use Rattle.sig_types.specs.declared.numbers.GroupNo.{GroupNo}
use Rattle.pua_model.specs.Plan.{name_of}
use Rattle.signal_log.specs.Log.{place_text, rule_name}
use Rattle.log_judge.specs.declared.why.Reason.{Reason}
use Rattle.log_judge.specs.declared.why.Reason.TheVariants.{NotYet, Least, On, Uncleared, Nothing}
use Rattle.refusal_text.specs.declared.refusal.Refusal.{Refusal}
use Rattle.refusal_text.specs.declared.refusal.Refusal.TheVariants.{Command, Turn}
use Rattle.refusal_text.specs.declared.refusal.Said.{Said}
use Rattle.refusal_text.specs.declared.refusal.Said.TheVariants.{Borne, Unknown, Contradicted}
use Rattle.refusal_text.specs.Words.{asked_name, command_text, second_of}

-- the names of the columns
abbrev pub columns_text : List ℕ
columns_text = codes "second,group,asked,rule,other,borne_out,since,seconds,needed,earliest,by\n"

-- since when, and how long up to before this place
abbrev pub span_text : (first from to : ℕ) → List ℕ
span_text first from to = decimal (first + from) ++ codes "," ++ decimal (to - from) ++ codes ","

-- these, how many seconds are needed, and the earliest second without this cause
abbrev pub numbers_text : (first from to needed earliest : ℕ) → List ℕ
numbers_text first from to needed earliest = span_text first from to ++ decimal needed ++ codes "," ++ decimal (first + earliest) ++ codes ","

-- the five fields of a cause: since, seconds, needed, earliest, by
abbrev pub cause_fields : List (List ℕ) → (first second : ℕ) → Reason → List ℕ
cause_fields names first second (NotYet since time) = numbers_text first since second time (since + time + 1)
cause_fields names first second (Least since least) = numbers_text first since second least (since + least)
cause_fields names first second (On other since) = span_text first since second ++ codes ",,"
cause_fields names first second (Uncleared other ended due least free by) = numbers_text first ended due least free ++ name_of names by
cause_fields names first second Nothing = codes ",,,,"

-- whether it is borne out, and the cause where it is
abbrev pub said_fields : List (List ℕ) → (first second : ℕ) → Said → List ℕ
said_fields names first second (Borne why) = codes "yes," ++ cause_fields names first second why
said_fields names first second Unknown = codes "unknown,,,,,"
said_fields names first second Contradicted = codes "no,,,,,"

-- the other group, where one is named
abbrev pub other_field : List (List ℕ) → Option GroupNo → List ℕ
other_field names None = []
other_field names (Some other) = name_of names other

-- the row of a refusal, but for its second
abbrev pub fields_text : List (List ℕ) → ℕ → Refusal → List ℕ
fields_text names first (Command second refused place) =
    codes ",," ++ command_text refused ++ codes "," ++ rule_name refused.rule ++ codes "," ++ place_text place ++ codes ",,,,,,"
fields_text names first (Turn second turn asked said) =
    codes "," ++ name_of names turn.group ++ codes "," ++ asked_name asked ++ codes "," ++ rule_name turn.rule ++ codes ","
    ++ other_field names turn.other ++ codes "," ++ said_fields names first second said

-- the row of a refusal
unfoldable pub row_text : List (List ℕ) → ℕ → Refusal → List ℕ
row_text names first refusal = decimal (first + second_of refusal) ++ fields_text names first refusal ++ codes "\n"

-- the whole table, of a log of these groups whose place 0 has this second
unfoldable pub table_text : List (List ℕ) → ℕ → List Refusal → List ℕ
table_text names first found = columns_text ++ flat_map (row_text names first) found
