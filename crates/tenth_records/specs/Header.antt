-- The header of a record, and how its lines are counted.
use Rattle.std.specs.Prelude.{◌≡◌, ℕ, ◌+◌, ◌<◌, ◌≤◌, nat_lt, List, [], ◌∷◌, length, Option, None, Some, Result, Ok, Err, if◌then◌else◌}
use Rattle.std.specs.Str.Lines.{lines}
use Rattle.tenth_records.specs.declared.entry.TenthStop.{TenthStop}
use Rattle.tenth_records.specs.declared.entry.TenthStop.TheVariants.{Memory, Fault, At}
use Rattle.tenth_records.specs.declared.entry.TenthWhy.{TenthWhy}
use Rattle.tenth_records.specs.declared.entry.TenthWhy.TheVariants as why
use Rattle.tenth_records.specs.declared.lines.RecordLines.{RecordLines}
use Rattle.tenth_records.specs.Record.{names_in}
use Rattle.tenth_records.specs.Unread as unread

-- so many lines were taken where the first time is this and the next one may be that: each behind the header has a later time
abbrev pub IsCounted : ℕ → ℕ → ℕ → Type 0
IsCounted count next first = (first < next) × (next ≤ first + 6048001) × (count + first ≤ next + 1) × (first ≤ 999999999)

-- the names of a header, or why there is none
abbrev pub named : Option (List (List ℕ)) → Result (List (List ℕ)) TenthWhy
named None = Err why.Header
named (Some names) = Ok names

-- the names of the groups that the first line of a record says, or why it is refused
unfoldable pub header_of : List (List ℕ) → Result (List (List ℕ)) TenthWhy
header_of [] = Err why.Header
header_of (line ∷ rest) = if nat_lt 262144 (length line) then Err why.LineTooLong else named (names_in line)

-- the first line of a record with these bytes was taken, or none is
abbrev pub IsFirst : {A : Type 0} → List ℕ → RecordLines → Result A TenthStop → Type 0
IsFirst bytes new (Ok x) =
    unread.IsNextLine bytes (unread.line_of new) (unread.unread_bytes new bytes) × (length (unread.line_of new) ≤ 262144)
IsFirst bytes new (Err Memory) = ⊥
IsFirst bytes new (Err Fault) = Unit {0}
IsFirst bytes new (Err (At line why)) = (line ≡ 1) × (header_of (lines bytes) ≡ Err why)

-- why a first line gives no plan
abbrev pub IsNoHeader : List ℕ → TenthStop → Type 0
IsNoHeader line Memory = Unit {0}
IsNoHeader line Fault = ⊥
IsNoHeader line (At number why) = (number ≡ 1) × (named (names_in line) ≡ Err why)
