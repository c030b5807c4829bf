-- What a reader holds of the records that it has accepted.
use Rattle.std.specs.Prelude.{◌≡◌, ℕ, ◌+◌, ◌<◌, ◌≤◌, true, List, [], ◌∷◌, length, drop, slice_index_or, Option, Some, None}
use Rattle.pua_model.specs.Plan.{PlanOf, groups_in}
use Rattle.sig_tables.specs.declared.times.TimesRow.{TimesRow}
use Rattle.csv.specs.Records.{fields_of}
use Rattle.sig_tables.specs.declared.header.Table.{Table}
use Rattle.sig_tables.specs.declared.header.Table.TheVariants.{Times, Intergreens}
use Rattle.sig_tables.specs.declared.records.Records.{Records}
use Rattle.sig_tables.specs.Headers.{headers_of}
use Rattle.sig_tables.specs.Records.{HasRead, Row, is_header, table_rows}
use Rattle.sig_tables.specs.Refusals.{numbered}
use Rattle.sig_types.specs.FirstRefused.{first_refused}
use Rattle.sig_types.specs.declared.numbers.GroupNo.{GroupNo}
use Rattle.sig_tables.specs.Held.{IsPairOf, empties, no_pair}
use Rattle.tenth_tables.specs.Times.{IsRow, listed_times, missing_times, times_reason, times_refused}
use Rattle.sig_tables.specs.IntergreenTable.{pair_in}
use Rattle.tenth_tables.specs.Intergreens.{ArePairs, intergreen_reason, intergreens_refused, listed_tenths}
use Rattle.sig_tables.specs.Pairs.{cell_of}

-- times that are there are in range
abbrev pub IsRowOrNone : Option TimesRow → Type 0
IsRowOrNone None = Unit {0}
IsRowOrNone (Some row) = IsRow row

-- a place for each group of the plan, with its times where these records have them
pub record HoldsTimes (plan : PlanOf) (rows : List Row) (held : List (Option TimesRow)) : Type 0 where
  pub size : length held ≡ groups_in plan
  pub times : (g : ℕ) → g < groups_in plan → slice_index_or held g None ≡ listed_times plan rows g
  pub range : (g : ℕ) → g < groups_in plan → IsRowOrNone (slice_index_or held g None)

-- a cell for each pair of groups, with its seconds where these records have them, and the pairs in the order of the records
pub record HoldsPairs (plan : PlanOf) (rows : List Row) (cells : List (Option ℕ))
    (pairs : List (GroupNo × GroupNo)) : Type 0 where
  pub size : length cells ≡ 4096
  pub seconds : (i g : ℕ) → cell_of cells i g ≡ listed_tenths plan rows i g
  pub count : length pairs ≡ length rows
  pub named : (k : ℕ) → k < length rows →
      pair_in plan (slice_index_or rows k []) ≡ Some ((slice_index_or pairs k no_pair).0.0, (slice_index_or pairs k no_pair).1.0)
  pub inside : (i g z : ℕ) → cell_of cells i g ≡ Some z → (i < groups_in plan) × (g < groups_in plan)
  pub range : (i g z : ℕ) → cell_of cells i g ≡ Some z → z ≤ 990
  pub other : (g : ℕ) → cell_of cells g g ≡ None
  pub found : (i g z : ℕ) → cell_of cells i g ≡ Some z →
      (k : ℕ) × ((k < length pairs) × ((slice_index_or pairs k no_pair).0.0 ≡ i) × ((slice_index_or pairs k no_pair).1.0 ≡ g))

-- the header of a table of times and the records of these rows were read, none of which is refused
pub record ReadsTimes (plan : PlanOf) (fields : ℕ) (text : List ℕ) (records : Records)
    (held : List (Option TimesRow)) : Type 0 where
  pub header : Row
  pub rows : List Row
  pub read : HasRead records text (header ∷ rows)
  pub right : is_header (headers_of Times) header ≡ true
  pub fields_are : length header ≡ fields
  pub accepted : first_refused (numbered (times_reason plan (length header))) rows [] ≡ None
  pub holds : HoldsTimes plan rows held
  pub at_most : groups_in plan ≤ 64
  pub at_least : 1 ≤ groups_in plan
  pub count : records.number + empties held ≡ groups_in plan + 1

-- all records of a table of times were read, so that only a group without one can refuse it
pub record HasTimes (plan : PlanOf) (text : List ℕ) (held : List (Option TimesRow)) : Type 0 where
  pub header : Row
  pub rows : List Row
  pub all : table_rows text ≡ header ∷ rows
  pub holds : HoldsTimes plan rows held
  pub refused : times_refused plan (table_rows text) ≡ missing_times plan rows

-- the header of a table of intergreens and the records of these rows were read, none of which is refused
pub record ReadsPairs (plan : PlanOf) (text : List ℕ) (records : Records) (cells : List (Option ℕ))
    (pairs : List (GroupNo × GroupNo)) : Type 0 where
  pub header : Row
  pub rows : List Row
  pub read : HasRead records text (header ∷ rows)
  pub right : is_header (headers_of Intergreens) header ≡ true
  pub accepted : first_refused (numbered (intergreen_reason plan)) rows [] ≡ None
  pub holds : HoldsPairs plan rows cells pairs
  pub inside : (k : ℕ) → k < length pairs → IsPairOf 64 (slice_index_or pairs k no_pair)
  pub count : records.number + empties cells ≡ 4097

-- nothing is held
pub record HoldsNothing (cells : List (Option ℕ)) (pairs : List (GroupNo × GroupNo)) : Type 0 where
  pub size : length cells ≡ 4096
  pub empty : (k : ℕ) → slice_index_or cells k None ≡ None
  pub free : empties cells ≡ 4096
  pub none : pairs ≡ []

-- a whole table of intergreens is held, none of whose records is refused
pub record HasPairs (plan : PlanOf) (text : List ℕ) (cells : List (Option ℕ)) : Type 0 where
  pub accepted : intergreens_refused plan (table_rows text) ≡ None
  pub seconds : (i g : ℕ) → cell_of cells i g ≡ listed_tenths plan (drop 1 (table_rows text)) i g
  pub pairs : ArePairs (record { count = groups_in plan; cells = cells })

-- the header of a table was read, and nothing behind it
abbrev pub HasHeader : Table → Records → List ℕ → Type 0
HasHeader table r text =
    (header : Row) × (HasRead r text (header ∷ []) × (is_header (headers_of table) header ≡ true) × (fields_of r.row ≡ header))
