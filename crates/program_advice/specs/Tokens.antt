-- Tokens in the text of a program.
use Rattle.std.specs.Prelude.{ℕ, ◌+◌, ◌-◌, ◌^◌, ◌==◌, min, Bool, true, false, if◌then◌else◌, List, [], ◌++◌, codes, drop, Option, None, slice_get}
use Rattle.std.specs.List.{prefix_len}
use Rattle.vap_lex.specs.declared.token.Sign.{Sign}
use Rattle.vap_lex.specs.declared.token.Sign.TheVariants as s
use Rattle.vap_lex.specs.declared.token.Token.{Token}
use Rattle.vap_lex.specs.declared.token.TokenKind.{TokenKind}
use Rattle.vap_lex.specs.declared.token.TokenKind.TheVariants as t
use Rattle.vap_parse.specs.Kinds.{kind_of}
use Rattle.program_advice.specs.declared.kinds.Class.{Class}
use Rattle.program_advice.specs.declared.kinds.Class.TheVariants as c
use Rattle.program_advice.specs.Bytes.{between, is_word_byte}
use Rattle.program_advice.specs.Kinds.{class_of}

-- the token before a place of a list, if there is one
abbrev pub token_before : List Token → ℕ → Option Token
token_before tokens place = if place == 0 then None else slice_get tokens (place - 1)

-- how many bytes a sign has
abbrev pub sign_len : Sign → ℕ
sign_len s.Assign = 2
sign_len s.Colon = 1
sign_len s.Semi = 1
sign_len s.Comma = 1
sign_len s.Dot = 1
sign_len s.Open = 1
sign_len s.Close = 1
sign_len s.OpenIndex = 1
sign_len s.CloseIndex = 1
sign_len s.Eq = 1
sign_len s.Ne = 2
sign_len s.Lt = 1
sign_len s.Le = 2
sign_len s.Gt = 1
sign_len s.Ge = 2
sign_len s.Plus = 1
sign_len s.Minus = 1
sign_len s.Star = 1
sign_len s.Slash = 1

-- how many bytes a token has that is this and stands at a place of a text
abbrev pub kind_len : List ℕ → ℕ → TokenKind → ℕ
kind_len text place (t.Word name) = prefix_len is_word_byte (drop place text)
kind_len text place (t.Number n) = prefix_len is_word_byte (drop place text)
kind_len text place (t.Sign sign) = sign_len sign

-- how many bytes a token of a text has
abbrev pub token_len : List ℕ → Token → ℕ
token_len text token = kind_len text token.place token.kind

-- a token of a text between quotes
abbrev pub quoted_token : List ℕ → Token → List ℕ
quoted_token text token =
    codes "`" ++ between text token.place (min (token.place + token_len text token) (2 ^ 64 - 1)) ++ codes "`"

-- a class is that of names
abbrev pub is_name : Class → Bool
is_name c.Alone = false
is_name c.Name = true
is_name c.Operand = false
is_name c.If = false
is_name c.End = false
is_name c.Command = false
is_name c.Reading = false
is_name c.Assign = false
is_name c.Equal = false
is_name c.Comparison = false
is_name c.Sum = false
is_name c.Minus = false
is_name c.Factor = false

-- what a word of a class is
abbrev pub role_of_class : Class → List ℕ
role_of_class class = if is_name class then codes "the name " else codes "the reserved word "

-- what a word is; nothing of a number or a sign
abbrev pub role_text : TokenKind → List ℕ
role_text (t.Word name) = role_of_class (class_of (kind_of (t.Word name)))
role_text (t.Number n) = []
role_text (t.Sign sign) = []
