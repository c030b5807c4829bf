-- The bytes of a text.
use Rattle.std.specs.Prelude.{ℕ, ◌+◌, ◌==◌, min, nat_le, Bool, not, ◌&&◌, ◌||◌, if◌then◌else◌, List, count_by, drop, length, map, reverse, take, take_while}
use Rattle.std.specs.List.{list_any}
use Rattle.sig_types.specs.Text.{is_digit, is_letter}

-- the bytes of a text from one place up to another
abbrev pub between : List ℕ → ℕ → ℕ → List ℕ
between text from to = drop from (take to text)

-- the byte that is shown in the place of a byte: a blank for a tab, and `?` for what is no printable ASCII
abbrev pub shown_byte : ℕ → ℕ
shown_byte b = if nat_le 32 b && nat_le b 126 then b else (if b == 9 then 32 else 63)

-- bytes as they can be shown
abbrev pub shown : List ℕ → List ℕ
shown bytes = map shown_byte bytes

-- a letter, a digit or `_`
abbrev pub is_word_byte : ℕ → Bool
is_word_byte b = is_letter b || is_digit b

-- neither a blank nor the end of a line
abbrev pub is_shown_part : ℕ → Bool
is_shown_part b = not (b == 32) && (not (b == 9) && (not (b == 10) && not (b == 13)))

-- how many bytes stand before a place with no blank between, 24 at most
abbrev pub run_before : List ℕ → ℕ → ℕ
run_before text place = min (length (take_while is_shown_part (reverse (take place text)))) 24

-- how many bytes stand from a place on with no blank between, 24 at most
abbrev pub run_behind : List ℕ → ℕ → ℕ
run_behind text place = min (length (take_while is_shown_part (drop place text))) 24

-- a blank or a tab
abbrev pub is_blank : ℕ → Bool
is_blank b = (b == 32) || (b == 9)

-- how many blanks stand before a place
abbrev pub blanks_before : List ℕ → ℕ → ℕ
blanks_before text place = length (take_while is_blank (reverse (take place text)))

-- how many blanks stand from a place on
abbrev pub blanks_behind : List ℕ → ℕ → ℕ
blanks_behind text place = length (take_while is_blank (drop place text))

-- a line ends in a text
abbrev pub has_line_end : List ℕ → Bool
has_line_end text = list_any (λ b. b == 10) text

-- the line of a place, from 1
abbrev pub line_of : List ℕ → ℕ → ℕ
line_of text place = count_by (λ b. b == 10) (take place text) + 1

-- how many bytes stand before a place in its line
abbrev pub column_of : List ℕ → ℕ → ℕ
column_of text place = length (take_while (λ b. not (b == 10)) (reverse (take place text)))
