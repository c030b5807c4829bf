-- Which tokens of a text stand in the brackets of its TRACE statements.
use Rattle.std.specs.Prelude.{ℕ, zero, suc, ◌+◌, Bool, false, true, List, [], ◌∷◌, ◌++◌, codes, if◌then◌else◌}
use Rattle.std.specs.Str.{bytes_eq}
use Rattle.vap_lex.specs.declared.token.Sign.TheVariants as sign
use Rattle.vap_lex.specs.declared.token.Token.{Token}
use Rattle.vap_lex.specs.declared.token.TokenKind.{TokenKind}
use Rattle.vap_lex.specs.declared.token.TokenKind.TheVariants.{Word, Number, Sign}
use Rattle.trace_told.specs.declared.brackets.Brackets.{Brackets}
use Rattle.trace_told.specs.declared.brackets.Where.{Where}
use Rattle.trace_told.specs.declared.brackets.Where.TheVariants.{Outside, Behind, Inside}

-- whether a token is the word TRACE
abbrev pub is_trace : TokenKind → Bool
is_trace (Word name) = bytes_eq name (codes "trace")
is_trace (Number n) = false
is_trace (Sign s) = false

-- whether a token opens a round bracket
abbrev pub opens : TokenKind → Bool
opens (Sign sign.Open) = true
opens _ = false

-- whether a token closes a round bracket
abbrev pub closes : TokenKind → Bool
closes (Sign sign.Close) = true
closes _ = false

-- where the next token stands, behind a bracket that closes one of so many others and the first
abbrev pub behind_closed : ℕ → ℕ → Where
behind_closed first zero = Outside
behind_closed first (suc others) = Inside first others

-- where the next token stands, behind one at this place: outside of every TRACE, behind the word, or in its brackets, whose
-- first token is at `first`, with so many others open
abbrev pub behind : Where → ℕ → TokenKind → Where
behind Outside place kind = if is_trace kind then Behind else Outside
behind Behind place kind = Inside (place + 1) 0
behind (Inside first others) place kind =
    if opens kind then Inside first (others + 1)
    else (if closes kind then behind_closed first others else Inside first others)

-- the brackets that a token closes, if they are those of a TRACE
abbrev pub closed : Where → ℕ → TokenKind → List Brackets
closed Outside place kind = []
closed Behind place kind = []
closed (Inside first zero) place kind = if closes kind then record { first = first; end = place } ∷ [] else []
closed (Inside first (suc others)) place kind = []

-- the brackets of the TRACE statements that end among tokens from this place on
abbrev pub brackets_from : ℕ → Where → List Token → List Brackets
brackets_from place at [] = []
brackets_from place at (t ∷ ts) = closed at place t.kind ++ brackets_from (place + 1) (behind at place t.kind) ts

-- the brackets of the TRACE statements of a text with these tokens, in their order
abbrev pub brackets_in : List Token → List Brackets
brackets_in tokens = brackets_from 0 Outside tokens
