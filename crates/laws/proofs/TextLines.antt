-- The tokens of a text have lines of the text.
use Rattle.std.proofs.Common.{ℕ, ◌+◌, ◌≤◌, ◌==◌, List, [], length, take, drop, Option, Some, None, All, arith}
use Rattle.std.proofs.lemmas.List.{length-take}
use Rattle.std.proofs.lemmas.List.Elements.{All-append, All-cons, All-nil}
use Rattle.std.proofs.lemmas.List.Sums.{count_by-le-length}
use Rattle.vap_ast.specs.Parsed.{IsLine}
use Rattle.vap_lex.specs.declared.token.Token.{Token}
use Rattle.vap_lex.specs.declared.token.TokenKind.{TokenKind}
use Rattle.vap_lex.specs.Tokens.{End, HasTokens, Scans, done, ends, found, kind_at, line_at, refuses, start_of, step}

module _ (text : List ℕ) (most : ℕ) (few : length text + 1 ≤ most) where
  abbrev Lined : Token → Type 0
  Lined t = IsLine most t.line

  line_there : (p : ℕ) → IsLine most (line_at text p)
  line_there p = (omega arith, omega (arith, count_by-le-length (λ b. b == 10) (take p text), length-take p text, few))

  found_lined : (p : ℕ) (o : Option TokenKind) → All Lined (found p (line_at text p) o)
  found_lined p None = All-nil Lined
  found_lined p (Some k) = All-cons Lined _ [] (line_there p) (All-nil Lined)

  scanned : (p : ℕ) (ts : List Token) (e : End) → Scans text p ts e → All Lined ts
  scanned _ _ _ (ends p le) = All-nil Lined
  scanned _ _ _ (refuses p why lt is) = All-nil Lined
  scanned _ _ _ (step p n piece ts e lt is more) =
      All-append Lined (found p (line_at text p) (kind_at piece (take n (drop p text)))) ts (found_lined p _) (scanned (p + n) ts e more)

pub tokens_have_lines : (text : List ℕ) (ts : List Token) (most : ℕ) → length text + 1 ≤ most → HasTokens text ts →
    All (λ t. IsLine most t.line) ts
tokens_have_lines text ts most few is = scanned text most few (start_of text) ts done is
