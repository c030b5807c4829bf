-- What is told of the first refused token, and what of the text is meant.
use Rattle.std.specs.Prelude.{ℕ, ◌+◌, ◌-◌, ◌^◌, min, Bool, true, false, ◌||◌, ◌&&◌, if◌then◌else◌, List, [], ◌++◌, codes, take, Option, None, Some, slice_get}
use Rattle.std.specs.Fmt.{decimal}
use Rattle.sig_types.specs.Text.{same_name}
use Rattle.vap_lex.specs.declared.token.Sign.{Sign}
use Rattle.vap_lex.specs.declared.token.Sign.TheVariants as s
use Rattle.vap_lex.specs.declared.token.Token.{Token}
use Rattle.vap_lex.specs.declared.token.TokenKind.{TokenKind}
use Rattle.vap_lex.specs.declared.token.TokenKind.TheVariants as t
use Rattle.vap_parse.specs.Kinds.{kind_of}
use Rattle.vap_parse.specs.declared.kind.Kind.{Kind}
use Rattle.program_advice.specs.declared.kinds.Class.TheVariants as c
use Rattle.program_advice.specs.declared.open.Open.{Open}
use Rattle.program_advice.specs.Bytes.{between}
use Rattle.program_advice.specs.Kinds.{class_of}
use Rattle.program_advice.specs.Open.{opened_by}
use Rattle.program_advice.specs.Tokens.{is_name, quoted_token, role_text, token_before, token_len}
use Rattle.program_advice.specs.Wanted.{has, wanted_list}

-- a token between quotes, with what it is
unfoldable pub before_text : List ℕ → Token → List ℕ
before_text program token = role_text token.kind ++ quoted_token program token

-- the text ends behind a token
unfoldable pub end_text : List ℕ → Token → List ℕ
end_text program before = codes "the text ends behind " ++ before_text program before

-- a token stands behind another one
unfoldable pub both_text : List ℕ → Token → Token → List ℕ
both_text program before here = quoted_token program here ++ codes " can't stand behind " ++ before_text program before

-- a text begins with a token
unfoldable pub begin_text : List ℕ → Token → List ℕ
begin_text program here = codes "this is no program: it begins with " ++ quoted_token program here

-- what stands there, behind what
abbrev pub here_text : List ℕ → Option Token → Option Token → List ℕ
here_text program None None = codes "the program is empty"
here_text program None (Some here) = begin_text program here
here_text program (Some before) None = end_text program before
here_text program (Some before) (Some here) = both_text program before here

-- the line of the IF that is open
abbrev pub if_text : ℕ → List ℕ
if_text line = codes "; the `IF` in line " ++ decimal line ++ codes " is open"

-- the same, where an END could stand
unfoldable pub open_text : List Kind → Open → List ℕ
open_text kinds opened = if has kinds c.End then if_text opened.line else []

-- what could stand in a place, and which IF is open
unfoldable pub could_text : List Kind → Bool → Open → List ℕ
could_text kinds aspect opened = codes "; wanted is " ++ wanted_list kinds aspect ++ open_text kinds opened

-- a token begins with two slashes, so a comment of another language is meant
abbrev pub is_comment : List ℕ → Token → Bool
is_comment program here = same_name (between program here.place (min (here.place + 2) (2 ^ 64 - 1))) (codes "//")

-- how a comment is written, where a token is meant as one
abbrev pub comment_of : List ℕ → Token → List ℕ
comment_of program here = if is_comment program here then codes "; a comment is `/* .. */`" else []

-- the same of a token that may not be there
abbrev pub comment_text : List ℕ → Option Token → List ℕ
comment_text program None = []
comment_text program (Some here) = comment_of program here

-- what is told of the token at a place, where tokens of these kinds could stand, and the name of an aspect or not
abbrev pub sentence_text : List ℕ → List Token → ℕ → List Kind → Bool → List ℕ
sentence_text program tokens at kinds aspect =
    here_text program (token_before tokens at) (slice_get tokens at) ++ could_text kinds aspect (opened_by (take at tokens))
    ++ comment_text program (slice_get tokens at)

-- ---- what is meant

-- a sign stands behind the word of a call
abbrev pub is_open_sign : Sign → Bool
is_open_sign s.Assign = false
is_open_sign s.Colon = false
is_open_sign s.Semi = false
is_open_sign s.Comma = false
is_open_sign s.Dot = false
is_open_sign s.Open = true
is_open_sign s.Close = false
is_open_sign s.OpenIndex = false
is_open_sign s.CloseIndex = false
is_open_sign s.Eq = false
is_open_sign s.Ne = false
is_open_sign s.Lt = false
is_open_sign s.Le = false
is_open_sign s.Gt = false
is_open_sign s.Ge = false
is_open_sign s.Plus = false
is_open_sign s.Minus = false
is_open_sign s.Star = false
is_open_sign s.Slash = false

-- a sign stands behind a statement of one word, or behind the word of a call
abbrev pub is_called_sign : Sign → Bool
is_called_sign s.Assign = false
is_called_sign s.Colon = false
is_called_sign s.Semi = true
is_called_sign s.Comma = false
is_called_sign s.Dot = false
is_called_sign s.Open = true
is_called_sign s.Close = false
is_called_sign s.OpenIndex = false
is_called_sign s.CloseIndex = false
is_called_sign s.Eq = false
is_called_sign s.Ne = false
is_called_sign s.Lt = false
is_called_sign s.Le = false
is_called_sign s.Gt = false
is_called_sign s.Ge = false
is_called_sign s.Plus = false
is_called_sign s.Minus = false
is_called_sign s.Star = false
is_called_sign s.Slash = false

-- what stands behind a name makes a word of the language of it, where these could stand there: a word, a number, `(` or `;` behind a
-- name that could begin a statement, or `(` behind one that could be a value
abbrev pub kind_is_called : List Kind → TokenKind → Bool
kind_is_called kinds (t.Word name) = has kinds c.Assign
kind_is_called kinds (t.Number n) = has kinds c.Assign
kind_is_called kinds (t.Sign sign) = (is_called_sign sign && has kinds c.Assign) || (is_open_sign sign && has kinds c.Factor)

-- the name before a refused token is what is meant
abbrev pub name_is_meant : List Kind → Token → Token → Bool
name_is_meant kinds before here = is_name (class_of (kind_of before.kind)) && kind_is_called kinds here.kind

-- the bytes of a token
abbrev pub range_of_token : List ℕ → Token → ℕ × ℕ
range_of_token program token = (token.place, min (token.place + token_len program token) (2 ^ 64 - 1))

-- the bytes that are meant: those of the token, or of the name before it; none of an empty program
abbrev pub meant_range : List ℕ → List Kind → Option Token → Option Token → ℕ × ℕ
meant_range program kinds None None = (0, 0)
meant_range program kinds None (Some here) = range_of_token program here
meant_range program kinds (Some before) None = range_of_token program before
meant_range program kinds (Some before) (Some here) =
    if name_is_meant kinds before here then range_of_token program before else range_of_token program here
