-- What the lines of a record tell: its entries, up to the first refused line.
use Rattle.std.specs.Prelude.{ℕ, suc, ◌+◌, nat_lt, Bool, true, false, List, [], ◌∷◌, codes, length, Option, None, Some, is_some, Result, Ok, Err, if◌then◌else◌}
use Rattle.std.specs.Option.{option_and_then, option_map}
use Rattle.std.specs.Str.{bytes_eq}
use Rattle.sig_types.specs.Text.{cut_at, strip}
use Rattle.sig_tables.specs.Amounts.{tenths_of}
use Rattle.log_read.specs.Form.{picture_of}
use Rattle.log_read.specs.Fields.{listed_names}
use Rattle.tenth_records.specs.declared.entry.Entry.{Entry}
use Rattle.tenth_records.specs.declared.entry.Shown.{Shown}
use Rattle.tenth_records.specs.declared.entry.Shown.TheVariants.{Picture, Unknown, End}
use Rattle.tenth_records.specs.declared.entry.TenthWhy.{TenthWhy}
use Rattle.tenth_records.specs.declared.entry.TenthWhy.TheVariants as why
use Rattle.tenth_records.specs.declared.line.Point.{Point}

-- the names of the groups of a header, none where the line is no header
unfoldable pub names_in : List ℕ → Option (List (List ℕ))
names_in line = option_and_then listed_names (strip (codes "VAPRECORD 1 ") line)

-- the tenths of a time: seconds with a point and one digit
abbrev pub time_in : List ℕ → Option ℕ
time_in text = if is_some (cut_at 46 text) then tenths_of text else None

-- what stands behind the bar of a line of so many groups
abbrev pub shown_in : ℕ → List ℕ → Option Shown
shown_in groups text =
    if bytes_eq text (codes "?") then Some Unknown
    else if bytes_eq text (codes "-") then Some End
    else option_map Picture (picture_of groups text)

-- a time is more than a week after the first one
abbrev pub is_late : Option ℕ → ℕ → Bool
is_late None at = false
is_late (Some first) at = nat_lt (first + 6048000) at

-- the entry of a time with what is shown from it on
abbrev pub shown_at : ℕ → Option Shown → Result Entry TenthWhy
shown_at at None = Err why.Aspects
shown_at at (Some shown) = Ok (record { at = at; shown = shown })

-- what a line says of this time, with this behind its bar
abbrev pub entry_at : ℕ → Point → Option ℕ → List ℕ → Result Entry TenthWhy
entry_at groups p None text = Err why.Time
entry_at groups p (Some at) text =
    if nat_lt at p.next then Err why.Order
    else if is_late p.first at then Err why.TooManySeconds
    else shown_at at (shown_in groups text)

-- what a line says that is cut at its first bar
abbrev pub entry_cut : ℕ → Point → Option (List ℕ × List ℕ) → Result Entry TenthWhy
entry_cut groups p None = Err why.Time
entry_cut groups p (Some cut) = entry_at groups p (time_in cut.0) cut.1

-- what a line of so many groups says at this point, or why it is refused
unfoldable pub entry_of : ℕ → Point → List ℕ → Result Entry TenthWhy
entry_of groups p line =
    if nat_lt 262144 (length line) then Err why.LineTooLong
    else if p.ended then Err why.AfterEnd
    else entry_cut groups p (cut_at 124 line)

-- the end is shown
abbrev pub is_end : Shown → Bool
is_end (Picture picture) = false
is_end Unknown = false
is_end End = true

-- the first time, where this one follows
abbrev pub first_or : Option ℕ → ℕ → ℕ
first_or None at = at
first_or (Some first) at = first

-- the point behind an entry
abbrev pub after : Point → Entry → Point
after p e = record { first = Some (first_or p.first e.at); next = e.at + 1; ended = is_end e.shown }

-- what is told of lines: their entries, and the first refused line with its reason
pub record Told : Type 0 where
  pub entries : List Entry
  pub refused : Option (ℕ × TenthWhy)

-- one entry more before them
abbrev pub entry_then : Entry → Told → Told
entry_then e told = record { entries = e ∷ told.entries; refused = told.refused }

-- what is told of a line with this number that says this, where the lines behind it tell that
abbrev pub told_by : ℕ → Result Entry TenthWhy → (Entry → Told) → Told
told_by number (Err why) rest = record { entries = []; refused = Some (number, why) }
told_by number (Ok e) rest = entry_then e (rest e)

-- what the lines from this point on tell, of which the first has this number: behind the last one the end must have been read
unfoldable pub told : ℕ → Point → ℕ → List (List ℕ) → Told
told groups p number [] = record { entries = []; refused = if p.ended then None else Some (number, why.MissingEnd) }
told groups p number (line ∷ lines) = told_by number (entry_of groups p line) (λ e. told groups (after p e) (suc number) lines)
