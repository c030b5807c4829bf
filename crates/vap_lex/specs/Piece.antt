-- What stands at the beginning of a text.
use Rattle.std.specs.Prelude.{pos, ℕ, ◌+◌, ◌-◌, ◌*◌, Bool, false, ◌||◌, ◌&&◌, if◌then◌else◌, ◌==◌, nat_le, List, [], ◌∷◌, length, take, drop, fold, slice_index, take_while, Option, Some, None, Result, Ok, Err}
use Rattle.std.specs.Option.{option_map}
use Rattle.sig_types.specs.Text.{is_digit, is_letter}
use Rattle.vap_ast.specs.Name.{is_word_byte}
use Rattle.vap_lex.specs.declared.piece.LexWhy.{LexWhy}
use Rattle.vap_lex.specs.declared.piece.LexWhy.TheVariants.{Byte, OpenComment, Decimal, NumberRange}
use Rattle.vap_lex.specs.declared.piece.Piece.{Piece}
use Rattle.vap_lex.specs.declared.piece.Piece.TheVariants.{Gap, Word, Number, Sign}
use Rattle.vap_lex.specs.declared.token.Sign.{Sign as AnySign}
use Rattle.vap_lex.specs.declared.token.Sign.TheVariants as s
use Rattle.vap_lex.specs.Kept.{IsNatural}

-- a space, a tab, a carriage return or a line feed
abbrev pub is_blank : ℕ → Bool
is_blank b = b == 32 || b == 9 || b == 13 || b == 10

-- how many bytes from the beginning on pass the test
abbrev pub run_len : (ℕ → Bool) → List ℕ → ℕ
run_len test bytes = length (take_while test bytes)

-- whether the first byte is `/`
abbrev pub begins_slash : List ℕ → Bool
begins_slash [] = false
begins_slash (b ∷ bs) = b == 47

-- the bytes up to the next end of a comment, that included
abbrev pub comment_len : List ℕ → Option ℕ
comment_len [] = None
comment_len (b ∷ bs) = if b == 42 && begins_slash bs then Some 2 else option_map (λ n. n + 1) (comment_len bs)

-- the value of digits
abbrev pub decimal : List ℕ → ℕ
decimal = fold (λ n d. n * 10 + (d - 48)) 0

-- the value of digits, where it isn't too large
abbrev pub number : List ℕ → Option ℕ
number digits = if nat_le (decimal digits) 2147483647 then Some (decimal digits) else None

-- the byte at a place, 0 past the end
abbrev pub byte_at : List ℕ → ℕ → ℕ
byte_at bytes i = slice_index bytes i

-- a sign of two bytes
abbrev pub long_sign : ℕ → ℕ → Option AnySign
long_sign a b =
    if a == 58 && b == 61 then Some s.Assign
    else (if a == 60 && b == 62 then Some s.Ne
    else (if a == 60 && b == 61 then Some s.Le
    else (if a == 62 && b == 61 then Some s.Ge else None)))

-- a sign of one byte
abbrev pub short_sign : ℕ → Option AnySign
short_sign a =
    if a == 58 then Some s.Colon
    else (if a == 59 then Some s.Semi
    else (if a == 44 then Some s.Comma
    else (if a == 46 then Some s.Dot
    else (if a == 40 then Some s.Open
    else (if a == 41 then Some s.Close
    else (if a == 91 then Some s.OpenIndex
    else (if a == 93 then Some s.CloseIndex
    else (if a == 61 then Some s.Eq
    else (if a == 60 then Some s.Lt
    else (if a == 62 then Some s.Gt
    else (if a == 43 then Some s.Plus
    else (if a == 45 then Some s.Minus
    else (if a == 42 then Some s.Star
    else (if a == 47 then Some s.Slash else None))))))))))))))

-- a sign that was found with its length, or else the other
abbrev pub sign_or : ℕ → Option AnySign → Result (Piece × ℕ) LexWhy → Result (Piece × ℕ) LexWhy
sign_or len None other = other
sign_or len (Some sign) other = Ok (Sign sign, len)

-- the longest sign
unfoldable pub sign : List ℕ → Result (Piece × ℕ) LexWhy
sign bytes = sign_or 2 (long_sign (byte_at bytes 0) (byte_at bytes 1)) (sign_or 1 (short_sign (byte_at bytes 0)) (Err Byte))

-- a number with its length, where it isn't too large
abbrev pub number_piece : ℕ → Option ℕ → Result (Piece × ℕ) LexWhy
number_piece len (Some n) = Ok (Number (pos n), len)
number_piece len None = Err NumberRange

-- all digits in a row
unfoldable pub digits : List ℕ → Result (Piece × ℕ) LexWhy
digits bytes =
    let len = run_len is_digit (drop 1 bytes) + 1 in
    if byte_at bytes len == 46 && is_digit (byte_at bytes (len + 1)) then Err Decimal
    else number_piece len (number (take len bytes))

-- a comment with its length, where it is closed
abbrev pub comment_gap : Option ℕ → Result (Piece × ℕ) LexWhy
comment_gap (Some n) = Ok (Gap, n + 2)
comment_gap None = Err OpenComment

-- what stands at the beginning, and how many bytes it has
unfoldable pub beginning : List ℕ → Result (Piece × ℕ) LexWhy
beginning bytes =
    if is_blank (byte_at bytes 0) then Ok (Gap, 1)
    else (if byte_at bytes 0 == 47 && byte_at bytes 1 == 42 then comment_gap (comment_len (drop 2 bytes))
    else (if is_letter (byte_at bytes 0) then Ok (Word, run_len is_word_byte (drop 1 bytes) + 1)
    else (if is_digit (byte_at bytes 0) then digits bytes else sign bytes)))

-- a number has no sign
abbrev pub IsNumbered : Piece → Type 0
IsNumbered (Number n) = IsNatural n
IsNumbered Gap = Unit {0}
IsNumbered Word = Unit {0}
IsNumbered (Sign s) = Unit {0}
