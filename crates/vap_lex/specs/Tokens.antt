-- The tokens of a text.
use Rattle.std.specs.Prelude.{◌≡◌, ℕ, ◌+◌, ◌==◌, ◌<◌, ◌≤◌, List, [], ◌∷◌, ◌++◌, ◌&&◌, if◌then◌else◌, length, take, drop, count_by, slice_index, Option, Some, None, Ok, Err}
use Rattle.vap_ast.specs.Name.{lowered}
use Rattle.vap_lex.specs.declared.token.Token.{Token}
use Rattle.vap_lex.specs.declared.token.TokenKind.{TokenKind}
use Rattle.vap_lex.specs.declared.token.TokenKind.TheVariants as kind
use Rattle.vap_lex.specs.declared.piece.LexWhy.{LexWhy}
use Rattle.vap_lex.specs.declared.piece.Piece.{Piece}
use Rattle.vap_lex.specs.declared.piece.Piece.TheVariants.{Gap, Word, Number, Sign}
use Rattle.vap_lex.specs.Piece.{beginning}

-- the line of a place, from 1
abbrev pub line_at : List ℕ → ℕ → ℕ
line_at text p = count_by (λ b. b == 10) (take p text) + 1

-- what kind of token a piece of these bytes is, if it is one
abbrev pub kind_at : Piece → List ℕ → Option TokenKind
kind_at Gap bytes = None
kind_at Word bytes = Some (kind.Word (lowered bytes))
kind_at (Number n) bytes = Some (kind.Number n)
kind_at (Sign s) bytes = Some (kind.Sign s)

-- a token of this kind, if there is one
abbrev pub found : ℕ → ℕ → Option TokenKind → List Token
found p line None = []
found p line (Some k) = record { place = p; line = line; kind = k } ∷ []

-- behind the byte order mark EF BB BF, where a text begins with one
abbrev pub start_of : List ℕ → ℕ
start_of text = if slice_index text 0 == 239 && (slice_index text 1 == 187 && slice_index text 2 == 191) then 3 else 0

-- where a text is done with: at its end, or at the place that is refused for this reason
pub data End : Type 0 where
  done : End
  stuck : ℕ → LexWhy → End

-- From a place on, a text has these tokens, up to its end or to the place that is refused.
pub data Scans (text : List ℕ) : ℕ → List Token → End → Type 0 where
  ends : (p : ℕ) → length text ≤ p → Scans text p [] done
  refuses : (p : ℕ) (why : LexWhy) → p < length text → beginning (drop p text) ≡ Err why → Scans text p [] (stuck p why)
  step : (p n : ℕ) (piece : Piece) (ts : List Token) (e : End)
      → p < length text → beginning (drop p text) ≡ Ok (piece, n) → Scans text (p + n) ts e
      → Scans text p (found p (line_at text p) (kind_at piece (take n (drop p text))) ++ ts) e

-- the text has these tokens and no place that is refused
abbrev pub HasTokens : List ℕ → List Token → Type 0
HasTokens text ts = Scans text (start_of text) ts done
