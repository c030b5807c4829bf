-- What is told of two logs.
use Rattle.std.specs.Prelude.{◌≡◌, ℕ, Bool, true, false, List, [], ◌++◌, codes, Option, None, Some, Result, Ok, Err}
use Rattle.std.specs.Io.KnownBytes.{append_known}
use Rattle.std.specs.List.{flat_map}
use Rattle.sig_io.specs.Draft.{IsCut}
use Rattle.sig_types.specs.LogForm.{spaced}
use Rattle.sig_types.specs.declared.record.Record.{Record}
use Rattle.report_words.specs.declared.stop.JudgeStop.{JudgeStop}
use Rattle.report_words.specs.declared.stop.JudgeStop.TheVariants as stop
use Rattle.log_compare.specs.declared.difference.Difference.{Difference}
use Rattle.log_compare.specs.declared.difference.Difference.TheVariants.{Nowhere, OneEnds, OtherEnds, In}
use Rattle.log_compare.specs.Difference.{IsDifference}
use Rattle.log_compare.specs.Rows.{rows_of}
use Rattle.log_compare.specs.Sides.{sides_of, sides_text}
use Rattle.log_compare.specs.Text.{difference_text}
use Rattle.log_sums.specs.declared.sums.LogSums.{LogSums}
use Rattle.log_sums.specs.Serves.{serves_of}
use Rattle.sums_text.specs.Table.{table_text}
use Rattle.report_seen.specs.Summed.{AreSumsIn}
use Rattle.report_seen.specs.CompareForm.{Asked}

-- where two logs differ first, of groups with these names, with these bytes and these records; none where they have other groups
abbrev pub IsFound : (names others : List (List ℕ)) (bytes other_bytes : List ℕ) (rs ss : List Record) → Option Difference → Type 0
IsFound names others bytes other_bytes rs ss None = names ≡ others → ⊥
IsFound names others bytes other_bytes rs ss (Some d) = (names ≡ others) × IsDifference bytes other_bytes rs ss d

-- they differ
abbrev pub differs : Option Difference → Bool
differs None = true
differs (Some Nowhere) = false
differs (Some (OneEnds last)) = true
differs (Some (OtherEnds last)) = true
differs (Some (In second one other)) = true

-- the groups of logs that have other ones
abbrev pub groups_text : List (List ℕ) → List (List ℕ) → List ℕ
groups_text names others = codes "groups" ++ flat_map spaced names ++ codes " |" ++ flat_map spaced others ++ codes "\n"

-- the first difference
abbrev pub beginning_text : Asked → (names others : List (List ℕ)) → Option Difference → List ℕ
beginning_text asked names others None = groups_text names others
beginning_text asked names others (Some d) = difference_text names asked.one asked.other d

-- the first difference, and the two tables of sums side by side
abbrev pub told_text : Asked → (names others : List (List ℕ)) (sums other_sums : LogSums) → Option Difference → List ℕ
told_text asked names others sums other_sums d =
    beginning_text asked names others d ++ sides_text (sides_of (rows_of (table_text names sums)) (rows_of (table_text others other_sums)))

-- the text of two logs with these bytes, all of whose lines are accepted, and whether they differ; no detectors are said to serve a group
pub record IsTextOf (asked : Asked) (bytes other_bytes : List ℕ) (differ : Bool) (text : List ℕ) : Type 0 where
  pub names : List (List ℕ)
  pub others : List (List ℕ)
  pub sums : LogSums
  pub other_sums : LogSums
  pub sums_are : AreSumsIn names bytes 1 604801 sums
  pub other_sums_are : AreSumsIn others other_bytes 1 604801 other_sums
  pub unserved : serves_of sums.serves.items ≡ []
  pub other_unserved : serves_of other_sums.serves.items ≡ []
  pub difference : Option Difference
  pub found : IsFound names others bytes other_bytes sums_are.records other_sums_are.records difference
  pub differ_is : differ ≡ differs difference
  pub text_is : text ≡ told_text asked names others sums other_sums difference

-- a sink has taken the text, or only its first bytes, and failed
abbrev pub IsWritten : {A : Type 0} → List ℕ → Result A JudgeStop → Option (List ℕ) → Option (List ℕ) → Type 0
IsWritten text (Ok x) old new = new ≡ append_known old text
IsWritten text (Err why) old new = (why ≡ stop.WriteFault) × ((n : ℕ) × IsCut old new n text)

-- telling may stop so
abbrev pub IsOfTelling : JudgeStop → Type 0
IsOfTelling stop.Words = ⊥
IsOfTelling stop.Memory = Unit {0}
IsOfTelling (stop.Site why) = ⊥
IsOfTelling (stop.ReadFault at) = ⊥
IsOfTelling (stop.RefusedLine at line why) = ⊥
IsOfTelling stop.WriteFault = Unit {0}

-- only the first bytes of the text are written
abbrev pub IsBroken : Asked → (bytes other_bytes : List ℕ) → Option (List ℕ) → Option (List ℕ) → Type 0
IsBroken asked bytes other_bytes old new =
    (differ : Bool) × ((text : List ℕ) × (IsTextOf asked bytes other_bytes differ text × ((n : ℕ) × IsCut old new n text)))

-- what telling gives: the text, and whether the logs differ
abbrev pub IsTold : Asked → (bytes other_bytes : List ℕ) → Result Bool JudgeStop → Option (List ℕ) → Option (List ℕ) → Type 0
IsTold asked bytes other_bytes (Ok differ) old new = (text : List ℕ) × (IsTextOf asked bytes other_bytes differ text × (new ≡ append_known old text))
IsTold asked bytes other_bytes (Err stop.Words) old new = ⊥
IsTold asked bytes other_bytes (Err stop.Memory) old new = new ≡ old
IsTold asked bytes other_bytes (Err (stop.Site why)) old new = ⊥
IsTold asked bytes other_bytes (Err (stop.ReadFault at)) old new = ⊥
IsTold asked bytes other_bytes (Err (stop.RefusedLine at line why)) old new = ⊥
IsTold asked bytes other_bytes (Err stop.WriteFault) old new = IsBroken asked bytes other_bytes old new
