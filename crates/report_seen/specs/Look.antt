-- What the words behind the seconds of a diagram ask for.
use Rattle.std.specs.Prelude.{zero, suc, ℕ, ◌+◌, ◌-◌, ◌*◌, ◌==◌, ◌&&◌, Bool, true, not, List, [], ◌∷◌, codes, length, slice_index_or, Option, None, Some}
use Rattle.std.specs.Prelude.{if◌then◌else◌, nat_le}
use Rattle.std.specs.Str.{bytes_eq}
use Rattle.sig_types.specs.Text.{number_of, within}
use Rattle.log_svg.specs.LookIn.{look_in}
use Rattle.log_svg.specs.Words.{Looked}
use Rattle.log_svg.specs.declared.words.Look.{Look}

-- a byte of a word; 0 behind it
abbrev pub byte_at : List ℕ → ℕ → ℕ
byte_at word i = slice_index_or word i 0

-- ---- the time of the day

-- a digit
abbrev pub is_digit : ℕ → Bool
is_digit byte = nat_le 48 byte && nat_le byte 57

-- the number of two digits, where they are such and it is at most this one
abbrev pub two_digits : ℕ → ℕ → ℕ → Option ℕ
two_digits most a b =
    if (is_digit a && is_digit b) && nat_le (10 * (a - 48) + (b - 48)) most then Some (10 * (a - 48) + (b - 48)) else None

-- the number of the two digits of a word from this place on
abbrev pub pair_at : List ℕ → ℕ → ℕ → Option ℕ
pair_at word most i = two_digits most (byte_at word i) (byte_at word (i + 1))

-- the seconds after midnight of hours, minutes and seconds
abbrev pub clock_by : Option ℕ → Option ℕ → Option ℕ → Option ℕ
clock_by None minutes seconds = None
clock_by (Some hours) None seconds = None
clock_by (Some hours) (Some minutes) None = None
clock_by (Some hours) (Some minutes) (Some seconds) = Some (hours * 3600 + minutes * 60 + seconds)

-- HH:MM:SS or HH:MM, from 00:00:00 to 23:59:59
abbrev pub clock_of : List ℕ → Option ℕ
clock_of word =
    if length word == 8 && (byte_at word 2 == 58 && byte_at word 5 == 58)
    then clock_by (pair_at word 23 0) (pair_at word 59 3) (pair_at word 59 6)
    else (if length word == 5 && byte_at word 2 == 58 then clock_by (pair_at word 23 0) (pair_at word 59 3) (Some 0) else None)

-- ---- the title

-- the bytes EF BF BE and EF BF BF: the two characters that an SVG may not have, beside the control characters
abbrev pub is_no_character : List ℕ → ℕ → Bool
is_no_character title i = byte_at title i == 239 && (byte_at title (i + 1) == 191 && nat_le 190 (byte_at title (i + 2)))

-- no control character stands at this place, and no such character begins there
abbrev pub is_fine : List ℕ → ℕ → Bool
is_fine title i = nat_le 32 (byte_at title i) && (not (byte_at title i == 127) && not (is_no_character title i))

-- at none of the first n places
unfoldable pub fine_to : List ℕ → ℕ → Bool
fine_to title zero = true
fine_to title (suc n) = fine_to title n && is_fine title n

-- a title has 1 to 80 bytes
abbrev pub is_title : List ℕ → Bool
is_title title = (nat_le 1 (length title) && nat_le (length title) 80) && fine_to title (length title)

-- ---- the options, which know no site

-- a diagram of which no more is asked: strips of 120 seconds, and no title or time of the day
abbrev pub plain : Looked
plain = record { strip = 120; title = []; begin = None; minimums = []; stages = [] }

-- with this time of the day at the beginning of second 1
abbrev pub begun_at : ℕ → List ℕ → Option ℕ → Option Looked
begun_at strip title None = None
begun_at strip title (Some begin) = Some (record { strip = strip; title = title; begin = Some begin; minimums = []; stages = [] })

-- nothing, or --begin HH:MM:SS
abbrev pub with_begin : ℕ → List ℕ → List (List ℕ) → Option Looked
with_begin strip title [] = Some (record { strip = strip; title = title; begin = None; minimums = []; stages = [] })
with_begin strip title (option ∷ []) = None
with_begin strip title (option ∷ clock ∷ []) = if bytes_eq option (codes "--begin") then begun_at strip title (clock_of clock) else None
with_begin strip title (option ∷ clock ∷ word ∷ rest) = None

-- --title TEXT, where it is given, and what follows
abbrev pub with_title : ℕ → List (List ℕ) → Option Looked
with_title strip [] = with_begin strip [] []
with_title strip (word ∷ []) = with_begin strip [] (word ∷ [])
with_title strip (option ∷ title ∷ rest) =
    if bytes_eq option (codes "--title") then (if is_title title then with_begin strip title rest else None)
    else with_begin strip [] (option ∷ title ∷ rest)

-- strips of so many seconds, where that is a number
abbrev pub in_strips : Option ℕ → List (List ℕ) → Option Looked
in_strips None rest = None
in_strips (Some strip) rest = with_title strip rest

-- --strip N, where it is given, and what follows
abbrev pub look_of : List (List ℕ) → Option Looked
look_of [] = with_title 120 []
look_of (word ∷ []) = with_title 120 (word ∷ [])
look_of (option ∷ n ∷ rest) =
    if bytes_eq option (codes "--strip") then in_strips (within 30 600 (number_of n)) rest else with_title 120 (option ∷ n ∷ rest)

-- how a diagram is to look, as the definition sees it
abbrev pub looked_by : Option Look → Option Looked
looked_by None = None
looked_by (Some look) = Some (look_in look)
