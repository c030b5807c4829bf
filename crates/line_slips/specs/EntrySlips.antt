-- Slips in a detector file.
use Rattle.std.specs.Prelude.{ℕ, ◌==◌, Bool, not, ◌&&◌, if◌then◌else◌, List, count_by, Option, Some, None}
use Rattle.std.specs.Char.{is_ascii_alphabetic}
use Rattle.std.specs.List.{list_any, slice_split}
use Rattle.line_slips.specs.declared.slip.EntrySlip.{EntrySlip}
use Rattle.line_slips.specs.declared.slip.EntrySlip.TheVariants.{TwoBlanks, BlankAtEnd, Commas, TwoNumbers, Headings}
use Rattle.line_slips.specs.Bytes.{has_two_spaces, is_blank, last_byte}

-- an entry of two numbers: one colon
abbrev pub is_pair : List ℕ → Bool
is_pair entry = count_by (λ b. b == 58) entry == 1

-- of a line with an entry that isn't three numbers
unfoldable pub entry_slip : List ℕ → Option EntrySlip
entry_slip line =
    if list_any is_ascii_alphabetic line then Some Headings
    else (if list_any (λ b. b == 44) line && not (list_any (λ b. b == 58) line) then Some Commas
    else (if has_two_spaces line then Some TwoBlanks
    else (if last_byte line == 32 then Some BlankAtEnd
    else (if list_any is_pair (slice_split is_blank line) then Some TwoNumbers else None))))
