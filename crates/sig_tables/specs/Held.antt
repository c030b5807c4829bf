-- What a reader holds of the records that it has accepted.
use Rattle.std.specs.Prelude.{◌≡◌, ℕ, ◌+◌, ◌<◌, ◌≤◌, List, [], ◌∷◌, length, slice_index_or, Option, Some, None}
use Rattle.pua_model.specs.Plan.{PlanOf, groups_in}
use Rattle.sig_tables.specs.declared.times.TimesRow.{TimesRow}
use Rattle.sig_tables.specs.Records.{Row}
use Rattle.sig_types.specs.declared.numbers.GroupNo.{GroupNo}
use Rattle.sig_tables.specs.TimesTable.{IsRow, listed_times}
use Rattle.sig_tables.specs.IntergreenTable.{listed_seconds, pair_in}
use Rattle.sig_tables.specs.Pairs.{cell_of}

-- the places that are still empty
abbrev pub empties : {A : Type 0} → List (Option A) → ℕ
empties [] = 0
empties (None ∷ xs) = empties xs + 1
empties (Some x ∷ xs) = empties xs

-- times that are there are in range
abbrev pub IsRowOrNone : Option TimesRow → Type 0
IsRowOrNone None = Unit {0}
IsRowOrNone (Some row) = IsRow row

-- a place for each group of the plan, with its times where these records have them
pub record HoldsTimes (plan : PlanOf) (rows : List Row) (held : List (Option TimesRow)) : Type 0 where
  pub size : length held ≡ groups_in plan
  pub times : (g : ℕ) → g < groups_in plan → slice_index_or held g None ≡ listed_times plan rows g
  pub range : (g : ℕ) → g < groups_in plan → IsRowOrNone (slice_index_or held g None)

-- stands for the pair at a place where there is none
abbrev pub no_pair : GroupNo × GroupNo
no_pair = (record { 0 = 0 }, record { 0 = 0 })

-- both groups are below the count
abbrev pub IsPairOf : ℕ → GroupNo × GroupNo → Type 0
IsPairOf n pair = (pair.0.0 < n) × (pair.1.0 < n)

-- a cell for each pair of groups, with its seconds where these records have them, and the pairs in the order of the records
pub record HoldsPairs (plan : PlanOf) (rows : List Row) (cells : List (Option ℕ))
    (pairs : List (GroupNo × GroupNo)) : Type 0 where
  pub size : length cells ≡ 4096
  pub seconds : (i g : ℕ) → cell_of cells i g ≡ listed_seconds plan rows i g
  pub count : length pairs ≡ length rows
  pub named : (k : ℕ) → k < length rows →
      pair_in plan (slice_index_or rows k []) ≡ Some ((slice_index_or pairs k no_pair).0.0, (slice_index_or pairs k no_pair).1.0)
  pub inside : (i g z : ℕ) → cell_of cells i g ≡ Some z → (i < groups_in plan) × (g < groups_in plan)
  pub range : (i g z : ℕ) → cell_of cells i g ≡ Some z → z ≤ 99
  pub other : (g : ℕ) → cell_of cells g g ≡ None
  pub found : (i g z : ℕ) → cell_of cells i g ≡ Some z →
      (k : ℕ) × ((k < length pairs) × ((slice_index_or pairs k no_pair).0.0 ≡ i) × ((slice_index_or pairs k no_pair).1.0 ≡ g))
