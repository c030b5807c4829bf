-- Where a text is refused, and why.
use Rattle.std.specs.Prelude.{◌≡◌, ℕ, List}
use Rattle.vap_lex.specs.declared.token.Token.{Token}
use Rattle.vap_lex.specs.declared.piece.LexWhy.{LexWhy}
use Rattle.vap_lex.specs.declared.scan.LexRefusal.{LexRefusal}
use Rattle.vap_lex.specs.declared.scan.LexRefusal.TheVariants.{Memory, At}
use Rattle.vap_lex.specs.Tokens.{Scans, stuck, line_at, start_of}

-- the first place that is refused, behind the tokens before it
abbrev pub IsStuck : List ℕ → ℕ → LexWhy → Type 0
IsStuck text p why = (ts : List Token) × Scans text (start_of text) ts (stuck p why)

-- this refusal tells the line and the reason of that place; that memory was wanted may be the answer to any text
abbrev pub IsRefused : List ℕ → LexRefusal → Type 0
IsRefused text Memory = Unit {0}
IsRefused text (At line why) = (p : ℕ) × IsStuck text p why × (line ≡ line_at text p)
