-- What each token of a text keeps.
use Rattle.std.specs.Prelude.{ℕ, ℤ, pos, negsuc, ◌<◌, ◌≤◌, ◌+◌}
use Rattle.vap_lex.specs.declared.token.Token.{Token}
use Rattle.vap_lex.specs.declared.token.TokenKind.{TokenKind}
use Rattle.vap_lex.specs.declared.token.TokenKind.TheVariants as kind

-- not below 0
abbrev pub IsNatural : ℤ → Type 0
IsNatural (pos n) = Unit {0}
IsNatural (negsuc n) = ⊥

-- a number has no sign
abbrev pub IsUnsigned : TokenKind → Type 0
IsUnsigned (kind.Word w) = Unit {0}
IsUnsigned (kind.Number n) = IsNatural n
IsUnsigned (kind.Sign s) = Unit {0}

-- a token with a place that has a next one in 32 bits, and without a sign where it is a number
abbrev pub IsKept : Token → Type 0
IsKept t = (t.place < 4294967294) × IsUnsigned t.kind

-- the token has a line of a text of this many bytes
abbrev pub HasLine : ℕ → Token → Type 0
HasLine bytes t = (1 ≤ t.line) × (t.line ≤ bytes + 1)
