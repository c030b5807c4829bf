-- A table of intergreens in tenths of a second: that of whole seconds, whose numbers may have one decimal.
use Rattle.std.specs.Prelude.{◌≡◌, ℕ, ◌≤◌, ◌<◌, ◌==◌, Bool, true, false, not}
use Rattle.std.specs.Prelude.{List, [], ◌∷◌, length, drop, Option, Some, None, is_some, is_none, unwrap_or, if◌then◌else◌}
use Rattle.sig_types.specs.FirstRefused.{first_reason, first_refused, when}
use Rattle.sig_types.specs.Text.{within}
use Rattle.pua_model.specs.Plan.{PlanOf}
use Rattle.sig_tables.specs.declared.refusal.TableWhy.{TableWhy}
use Rattle.sig_tables.specs.declared.refusal.TableWhy.TheVariants as why
use Rattle.sig_tables.specs.declared.header.Table.TheVariants.{Intergreens}
use Rattle.sig_tables.specs.Amounts.{tenths_of}
use Rattle.sig_tables.specs.Records.{Row, table_rows, field}
use Rattle.sig_tables.specs.Refusals.{Refusal, header_refusal, numbered}
use Rattle.sig_tables.specs.Headers.{headers_of}
use Rattle.sig_tables.specs.IntergreenTable.{is_pair, is_self, pair_in}
use Rattle.sig_tables.specs.Pairs.{Pairs, between}

-- 1 to 64 groups; pairs of two different groups below the count, listed both ways, with 0 to 990 tenths
pub record ArePairs (p : Pairs) : Type 0 where
  pub at_least : 1 ≤ p.count
  pub at_most : p.count ≤ 64
  pub size : length p.cells ≡ 4096
  pub inside : (i g z : ℕ) → between p i g ≡ Some z → (i < p.count) × (g < p.count)
  pub range : (i g z : ℕ) → between p i g ≡ Some z → z ≤ 990
  pub both : (i g z : ℕ) → between p i g ≡ Some z → is_some (between p g i) ≡ true
  pub other : (g : ℕ) → between p g g ≡ None

-- the tenths of a record, where they are a number in its range
unfoldable pub tenths_in : Row → Option ℕ
tenths_in row = within 0 990 (tenths_of (field row 2))

-- the tenths of an ordered pair among these records
unfoldable pub listed_tenths : PlanOf → List Row → ℕ → ℕ → Option ℕ
listed_tenths plan [] i g = None
listed_tenths plan (row ∷ rows) i g =
    if is_pair (pair_in plan row) i g then Some (unwrap_or (tenths_in row) 0) else listed_tenths plan rows i g

-- the reason to refuse a record whatever stands before it, but for a group with itself
unfoldable pub intergreen_form : PlanOf → Row → Option TableWhy
intergreen_form plan row = first_reason (
    when (not (length row == 3)) why.Fields
    ∷ when (is_none (tenths_in row)) why.Number
    ∷ when (is_none (pair_in plan row)) why.UnknownName
    ∷ [])

-- whether the records have one of the pair that is named
abbrev pub has_pair : PlanOf → List Row → Option (ℕ × ℕ) → Bool
has_pair plan rows None = false
has_pair plan rows (Some p) = is_some (listed_tenths plan rows p.0 p.1)

-- the reason to refuse a record after the header and these records
unfoldable pub intergreen_reason : PlanOf → List Row → Row → Option TableWhy
intergreen_reason plan rows row = first_reason (
    intergreen_form plan row
    ∷ when (has_pair plan rows (pair_in plan row)) why.Twice
    ∷ when (is_self (pair_in plan row)) why.SelfConflict
    ∷ [])

-- a pair that is not listed the other way among all records
abbrev pub one_way : PlanOf → List Row → Option (ℕ × ℕ) → Option TableWhy
one_way plan all None = None
one_way plan all (Some p) =
    when (is_none (listed_tenths plan all p.1 p.0)) (why.OneWay (record { 0 = p.0 }) (record { 0 = p.1 }))

-- why a record is refused after all were read: its pair is not listed the other way
unfoldable pub one_way_reason : PlanOf → List Row → List Row → Row → Option TableWhy
one_way_reason plan all before row = one_way plan all (pair_in plan row)

-- why and where records are refused as a table of intergreens of the plan
unfoldable pub intergreens_refused : PlanOf → List Row → Option Refusal
intergreens_refused plan rows = first_reason (
    header_refusal (headers_of Intergreens) rows
    ∷ first_refused (numbered (intergreen_reason plan)) (drop 1 rows) []
    ∷ first_refused (numbered (one_way_reason plan (drop 1 rows))) (drop 1 rows) []
    ∷ [])

-- why and where a text is refused as a table of intergreens of the plan in tenths
abbrev pub intergreens_refusal : PlanOf → List ℕ → Option Refusal
intergreens_refusal plan text = intergreens_refused plan (table_rows text)

-- the tenths that an accepted text gives a pair of groups of the plan
unfoldable pub intergreen_of : PlanOf → List ℕ → ℕ → ℕ → Option ℕ
intergreen_of plan text i g = listed_tenths plan (drop 1 (table_rows text)) i g
