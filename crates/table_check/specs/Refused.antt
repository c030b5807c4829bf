-- Which records of a table are refused.
use Rattle.std.specs.Prelude.{ℕ, ◌==◌, Bool, not, List, [], ◌∷◌, ◌++◌, length, take, Option, Some, None, is_some, if◌then◌else◌}
use Rattle.sig_types.specs.FirstRefused.{first_reason, when}
use Rattle.pua_model.specs.Plan.{PlanOf}
use Rattle.table_check.specs.declared.table.Table.{Table}
use Rattle.table_check.specs.declared.table.Table.TheVariants.{Times, Intergreens}
use Rattle.sig_tables.specs.declared.refusal.TableWhy.{TableWhy}
use Rattle.sig_tables.specs.declared.refusal.TableWhy.TheVariants as why
use Rattle.sig_tables.specs.declared.header.Table.TheVariants as sheet
use Rattle.sig_tables.specs.Headers.{headers_of}
use Rattle.sig_tables.specs.IntergreenTable.{intergreen_reason, seconds_in}
use Rattle.sig_tables.specs.Records.{Row, is_header, table_rows}
use Rattle.sig_tables.specs.Refusals.{Refusal, numbered}
use Rattle.sig_tables.specs.TimesTable.{times_in, times_reason}

-- the headers that a table may have
abbrev pub headers_in : Table → List (List (List ℕ))
headers_in Times = headers_of sheet.Times
headers_in Intergreens = headers_of sheet.Intergreens

-- the numbers of a record are in their ranges
abbrev pub has_numbers : Table → Row → Bool
has_numbers Times row = is_some (times_in row)
has_numbers Intergreens row = is_some (seconds_in row)

-- the reason to refuse a record after a header of so many fields for its fields and numbers, whatever it names
unfoldable pub bare_reason : Table → ℕ → Row → Option TableWhy
bare_reason table fields row = first_reason (
    when (not (length row == fields)) why.Fields
    ∷ when (not (has_numbers table row)) why.Number
    ∷ [])

-- the reason to refuse it after these records as one of a table of the plan, as the table's reader has it
abbrev pub plan_reason : PlanOf → Table → ℕ → List Row → Row → Option TableWhy
plan_reason plan Times fields rows row = times_reason plan fields rows row
plan_reason plan Intergreens fields rows row = intergreen_reason plan rows row

-- the same where there may be no plan to judge it by
abbrev pub record_reason : Option PlanOf → Table → ℕ → List Row → Row → Option TableWhy
record_reason None table fields rows row = bare_reason table fields row
record_reason (Some plan) table fields rows row = plan_reason plan table fields rows row

-- a refusal, where there is one
abbrev pub told : Option Refusal → List Refusal
told None = []
told (Some refusal) = refusal ∷ []

-- all refusals of records that follow some others, each judged after all records before it, refused ones too
abbrev pub refused_each : (List Row → Row → Option Refusal) → List Row → List Row → List Refusal
refused_each judge before [] = []
refused_each judge before (row ∷ rows) = told (judge before row) ++ refused_each judge (before ++ row ∷ []) rows

-- the header, or else all records behind it that are refused
abbrev pub refused_rows : Table → Option PlanOf → List Row → List Refusal
refused_rows table plan [] = (1, why.Header) ∷ []
refused_rows table plan (header ∷ rows) =
    if is_header (headers_in table) header then refused_each (numbered (record_reason plan table (length header))) [] rows
    else (1, why.Header) ∷ []

-- all refused records of a text among its first 5,000, which are more than an accepted table has
unfoldable pub refused_records : Table → Option PlanOf → List ℕ → List Refusal
refused_records table plan text = refused_rows table plan (take 5000 (table_rows text))
