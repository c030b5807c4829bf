-- A table of times in tenths of a second: that of whole seconds, whose numbers may have one decimal.
use Rattle.std.specs.Prelude.{ℕ, zero, suc, ◌≤◌, ◌==◌, Bool, false, not}
use Rattle.std.specs.Prelude.{List, [], ◌∷◌, ◌++◌, length, drop, Option, Some, None, is_some, is_none, if◌then◌else◌, All}
use Rattle.std.specs.Option.{option_or}
use Rattle.sig_types.specs.FirstRefused.{first_reason, first_refused, when}
use Rattle.sig_types.specs.Text.{within}
use Rattle.sig_types.specs.Words.{least_below}
use Rattle.pua_model.specs.Plan.{PlanOf, groups_in}
use Rattle.sig_tables.specs.declared.refusal.TableWhy.{TableWhy}
use Rattle.sig_tables.specs.declared.refusal.TableWhy.TheVariants as why
use Rattle.sig_tables.specs.declared.times.TimesRow.{TimesRow}
use Rattle.sig_tables.specs.declared.header.Table.TheVariants.{Times}
use Rattle.sig_tables.specs.Amounts.{tenths_of}
use Rattle.sig_tables.specs.Records.{Row, table_rows, field}
use Rattle.sig_tables.specs.Refusals.{Refusal, header_refusal, numbered}
use Rattle.sig_tables.specs.Headers.{headers_of}
use Rattle.sig_tables.specs.Groups.{group_at, is_group}
use Rattle.sig_tables.specs.TimesTable.{fields_in, missing_group, times_or, times_with}

-- minimum green and minimum red 1 to 255 seconds, red-amber and amber 0 to 9 seconds, in tenths
pub record IsRow (row : TimesRow) : Type 0 where
  pub min : 10 ≤ row.min
  pub min_at_most : row.min ≤ 2550
  pub red_amber : row.red_amber ≤ 90
  pub amber : row.amber ≤ 90
  pub min_red : 10 ≤ row.min_red
  pub min_red_at_most : row.min_red ≤ 2550

-- 1 to 64 rows, in range
pub record AreTimes (rows : List TimesRow) : Type 0 where
  pub at_least : 1 ≤ length rows
  pub at_most : length rows ≤ 64
  pub range : All IsRow rows

-- the minimum red of a record in tenths, where it is one in its range; one second where a record of four fields has none
abbrev pub min_red_in : Row → Option ℕ
min_red_in row = if length row == 4 then Some 10 else within 10 2550 (tenths_of (field row 4))

-- the numbers of a record in tenths, where each is one in its range
unfoldable pub times_in : Row → Option TimesRow
times_in row =
    times_with (within 10 2550 (tenths_of (field row 1))) (within 0 90 (tenths_of (field row 2)))
    (within 0 90 (tenths_of (field row 3))) (min_red_in row)

-- the times of a group among these records
unfoldable pub listed_times : PlanOf → List Row → ℕ → Option TimesRow
listed_times plan [] g = None
listed_times plan (row ∷ rows) g =
    if is_group (group_at plan row 0) g then Some (times_or (times_in row)) else listed_times plan rows g

-- the reason to refuse a record after a header of so many fields, whatever stands between them
unfoldable pub times_form : PlanOf → ℕ → Row → Option TableWhy
times_form plan fields row = first_reason (
    when (not (length row == fields)) why.Fields
    ∷ when (is_none (times_in row)) why.Number
    ∷ when (is_none (group_at plan row 0)) why.UnknownName
    ∷ [])

-- whether the records have one of the group that is named
abbrev pub has_times : PlanOf → List Row → Option ℕ → Bool
has_times plan rows None = false
has_times plan rows (Some g) = is_some (listed_times plan rows g)

-- the reason to refuse a record after a header of so many fields and these records
unfoldable pub times_reason : PlanOf → ℕ → List Row → Row → Option TableWhy
times_reason plan fields rows row =
    option_or (times_form plan fields row) (when (has_times plan rows (group_at plan row 0)) why.Twice)

-- the lowest group without a record
unfoldable pub missing_times : PlanOf → List Row → Option Refusal
missing_times plan rows = missing_group (least_below (λ g. is_none (listed_times plan rows g)) (groups_in plan))

-- why and where records are refused as a table of times of the plan; each has as many fields as record 1
unfoldable pub times_refused : PlanOf → List Row → Option Refusal
times_refused plan rows = first_reason (
    header_refusal (headers_of Times) rows
    ∷ first_refused (numbered (times_reason plan (fields_in rows))) (drop 1 rows) []
    ∷ missing_times plan (drop 1 rows)
    ∷ [])

-- why and where a text is refused as a table of times of the plan in tenths
abbrev pub times_refusal : PlanOf → List ℕ → Option Refusal
times_refusal plan text = times_refused plan (table_rows text)

-- the times of the groups below n
unfoldable pub times_below : PlanOf → List Row → ℕ → List TimesRow
times_below plan rows zero = []
times_below plan rows (suc n) = times_below plan rows n ++ times_or (listed_times plan rows n) ∷ []

-- the times in tenths that an accepted text gives the groups of the plan
unfoldable pub times_of : PlanOf → List ℕ → List TimesRow
times_of plan text = times_below plan (drop 1 (table_rows text)) (groups_in plan)
