-- Bytes and ends of a line.
use Rattle.std.specs.Prelude.{ℕ, ◌-◌, ◌==◌, nat_le, Bool, false, not, ◌&&◌, ◌||◌, List, [], ◌∷◌, length, take, drop, slice_index}
use Rattle.std.specs.Char.{is_ascii_whitespace}
use Rattle.std.specs.List.{list_any, prefix_len, suffix_len}
use Rattle.sig_types.specs.Text.{is_digit, is_letter, same_name}

-- a blank or a tab
abbrev pub is_blank : ℕ → Bool
is_blank b = (b == 32) || (b == 9)

-- a letter, a digit or `_`
abbrev pub is_word_byte : ℕ → Bool
is_word_byte b = is_letter b || is_digit b

-- a text begins with these bytes, whatever the case of their letters
unfoldable pub begins : List ℕ → List ℕ → Bool
begins text start = same_name (take (length start) text) start

-- the byte that a text ends with; 0 where it has none
unfoldable pub last_byte : List ℕ → ℕ
last_byte text = slice_index text (length text - 1)

-- a text without the white space at its end
unfoldable pub trimmed_end : List ℕ → List ℕ
trimmed_end text = take (length text - suffix_len is_ascii_whitespace text) text

-- a text without the white space around it
unfoldable pub trimmed : List ℕ → List ℕ
trimmed text = trimmed_end (drop (prefix_len is_ascii_whitespace text) text)

-- a line has a blank or a tab
abbrev pub has_blank : List ℕ → Bool
has_blank line = list_any is_blank line

-- a text passes a test from some place on
abbrev pub somewhere : (List ℕ → Bool) → List ℕ → Bool
somewhere test [] = false
somewhere test (b ∷ bs) = test (b ∷ bs) || somewhere test bs

-- a text begins with a digit, a point or a comma, and a digit
unfoldable pub begins_with_decimal : List ℕ → Bool
begins_with_decimal text =
    nat_le 3 (length text)
    && (is_digit (slice_index text 0) && (((slice_index text 1 == 46) || (slice_index text 1 == 44)) && is_digit (slice_index text 2)))

-- a line has a decimal
abbrev pub has_decimal : List ℕ → Bool
has_decimal line = somewhere begins_with_decimal line

-- a text begins with two spaces
unfoldable pub begins_with_two : List ℕ → Bool
begins_with_two text = nat_le 2 (length text) && ((slice_index text 0 == 32) && (slice_index text 1 == 32))

-- a line has two spaces with nothing between them
abbrev pub has_two_spaces : List ℕ → Bool
has_two_spaces line = somewhere begins_with_two line

-- what stands behind the first word of a line
unfoldable pub behind_word : List ℕ → List ℕ
behind_word line = drop (prefix_len (λ b. not (is_blank b)) line) line
