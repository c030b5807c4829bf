-- Bytes in which a control byte, a quote and a backslash are escaped, as in JSON.
use Rattle.std.specs.Prelude.{ℕ, ◌+◌, ◌/◌, ◌%◌, ◌==◌, nat_lt, ◌||◌, if◌then◌else◌, List, [], ◌∷◌, ◌++◌, codes}

-- a digit of base 16
abbrev pub hex_digit : ℕ → ℕ
hex_digit n = if nat_lt n 10 then n + 48 else n + 87

-- a backslash before a quote and a backslash, and a control byte by its number
abbrev pub escaped_byte : ℕ → List ℕ
escaped_byte b =
    if (b == 34) || (b == 92) then 92 ∷ b ∷ []
    else (if nat_lt b 32 || (b == 127) then codes "\\u00" ++ hex_digit (b / 16) ∷ hex_digit (b % 16) ∷ [] else b ∷ [])

-- bytes, each so
abbrev pub escaped : List ℕ → List ℕ
escaped [] = []
escaped (b ∷ bs) = escaped_byte b ++ escaped bs
