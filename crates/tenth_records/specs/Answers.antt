-- What a reader of a record stands for, and what it answers.
use Rattle.std.specs.Prelude.{◌≡◌, ℕ, suc, ◌+◌, ◌≤◌, Bool, false, List, [], drop, length, Option, None, Some, Result, Ok, Err}
use Rattle.std.specs.Str.Lines.{lines}
use Rattle.pua_model.specs.Plan.{PlanOf}
use Rattle.tenth_records.specs.declared.entry.Entry.{Entry}
use Rattle.tenth_records.specs.declared.entry.Shown.{Shown}
use Rattle.tenth_records.specs.declared.entry.Shown.TheVariants.{Picture, Unknown, End}
use Rattle.tenth_records.specs.declared.entry.TenthStop.{TenthStop}
use Rattle.tenth_records.specs.declared.entry.TenthStop.TheVariants.{Memory, Fault, At}
use Rattle.tenth_records.specs.declared.entry.TenthWhy.{TenthWhy}
use Rattle.tenth_records.specs.declared.line.Point.{Point}
use Rattle.tenth_records.specs.declared.reader.TenthRecord.{TenthRecord}
use Rattle.tenth_records.specs.Header.{header_of}
use Rattle.tenth_records.specs.Record.{Told, entry_then, first_or, told}
use Rattle.tenth_records.specs.Unread as unread

-- the name of the file
unfoldable pub name_of : TenthRecord → List ℕ
name_of r = unread.name_in r.lines

-- no call has refused
unfoldable pub is_live : TenthRecord → Bool
is_live r = r.live

-- the number of its groups
unfoldable pub groups_of : TenthRecord → ℕ
groups_of r = r.groups

-- the first time, where an entry was given
unfoldable pub first_of : TenthRecord → Option ℕ
first_of r = r.point.first

-- the earliest time that may follow
unfoldable pub next_of : TenthRecord → ℕ
next_of r = r.point.next

-- a picture has an aspect for each of so many groups
abbrev pub IsSized : ℕ → Shown → Type 0
IsSized groups (Picture picture) = length picture ≡ groups
IsSized groups Unknown = Unit {0}
IsSized groups End = Unit {0}

-- an entry that is given: it is no earlier than may be, at most a week after the first one, and its picture has the groups
pub record Follows (old new : TenthRecord) (e : Entry) : Type 0 where
  pub later : next_of old ≤ e.at
  pub next : next_of new ≡ e.at + 1
  pub first : first_of new ≡ Some (first_or (first_of old) e.at)
  pub week : e.at ≤ first_or (first_of old) e.at + 6048000
  pub at_most : e.at ≤ 999999999
  pub sized : IsSized (groups_of old) e.shown

-- what the lines tell that are left of a file with these bytes
unfoldable pub left_told : TenthRecord → List ℕ → Told
left_told r bytes = told r.groups r.point (suc r.count) (lines (unread.unread_bytes r.lines bytes))

-- nothing more is told
abbrev pub told_end : Option (ℕ × TenthWhy) → Told
told_end refused = record { entries = []; refused = refused }

-- what a call answers where the lines before and behind it tell this
abbrev pub IsNext : Told → Told → Result (Option Entry) TenthStop → Type 0
IsNext old new (Ok (Some e)) = old ≡ entry_then e new
IsNext old new (Ok None) = (old ≡ told_end None) × (new ≡ told_end None)
IsNext old new (Err Memory) = ⊥
IsNext old new (Err Fault) = Unit {0}
IsNext old new (Err (At line why)) = old ≡ told_end (Some (line, why))

-- the point behind the header
abbrev pub start : Point
start = record { first = None; next = 0; ended = false }

-- what the lines behind the header of a record with these bytes tell
unfoldable pub record_told : List (List ℕ) → List ℕ → Told
record_told names bytes = told (length names) start 2 (drop 1 (lines bytes))

-- what opening a record with these bytes gives: a reader behind its header, and a plan of the groups that it names
abbrev pub IsOpened : List ℕ → Result (TenthRecord × PlanOf) TenthStop → Type 0
IsOpened bytes (Ok opened) =
    (header_of (lines bytes) ≡ Ok opened.1.names) × (left_told opened.0 bytes ≡ record_told opened.1.names bytes)
IsOpened bytes (Err Memory) = Unit {0}
IsOpened bytes (Err Fault) = Unit {0}
IsOpened bytes (Err (At line why)) = (line ≡ 1) × (header_of (lines bytes) ≡ Err why)
