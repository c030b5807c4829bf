-- The lines of a text, with and without a carriage return at their ends.
use Rattle.std.proofs.Common.{ℕ, ◌+◌, ◌-◌, ◌<◌, ◌≤◌, ◌==◌, Bool, true, false, List, length, take, arith, if◌then◌else◌, slice_index}
use Rattle.std.proofs.lemmas.List.{length-take-le}
use Rattle.std.specs.Str.Lines.{strip_carriage_return}
use Rattle.sig_types.proofs.Lines.{lines_next, lines_last}
use Rattle.line_reader.specs.Unread.{BeginsWith, FirstIsLonger}
use Rattle.tenth_records.specs.Unread.{IsNextLine, NextIsLong}

-- the line as a text
abbrev pub text_of : List ℕ → Bool → List ℕ
text_of line ended = if ended then strip_carriage_return line else line

pub next_text : (text line : List ℕ) (ended : Bool) (rest : List ℕ) → BeginsWith text line ended rest → IsNextLine text (text_of line ended) rest
next_text text line true rest begins = rw begins.cut (lines_next line rest begins.no_feed)
next_text text line false rest begins = rw (begins.cut.0, begins.cut.1) (lines_last line begins.no_feed begins.cut.2)

strip_length : (l : List ℕ) → length l ≤ length (strip_carriage_return l) + 1
strip_length l = go (slice_index l (length l - 1) == 13)
  where
    go : (b : Bool) → length l ≤ length (if b then take (length l - 1) l else l) + 1
    go true = omega (arith, length-take-le (length l - 1) l (omega arith))
    go false = omega arith

text_length : (line : List ℕ) (ended : Bool) → length line ≤ length (text_of line ended) + 1
text_length line true = strip_length line
text_length line false = omega arith

-- a line of more than 262,145 bytes, and a text of more than 262,144
pub long_line : (text : List ℕ) → FirstIsLonger 262145 text → NextIsLong text
long_line text long = (
  text_of long.line long.ended,
  (
    long.rest,
    (next_text text long.line long.ended long.rest long.begins, omega (arith, text_length long.line long.ended, long.longer)),
  ),
)

pub long_text : (text line : List ℕ) (ended : Bool) (rest : List ℕ) → BeginsWith text line ended rest → 262144 < length (text_of line ended) → NextIsLong text
long_text text line ended rest begins long = (text_of line ended, (rest, (next_text text line ended rest begins, long)))
