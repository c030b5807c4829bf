-- Which tokens of a program are the first of their word.
use Rattle.std.specs.Prelude.{◌≡◌, ℕ, ◌<◌, ◌≤◌, Bool, true, false, not, List, [], ◌∷◌, ◌++◌, length, take, slice_index_or}
use Rattle.std.specs.Prelude.{Option, None, Some, pos}
use Rattle.std.specs.List.{list_any}
use Rattle.vap_check.specs.Names.{among, with_name}
use Rattle.vap_lex.specs.declared.token.Token.{Token}
use Rattle.vap_lex.specs.declared.token.TokenKind.{TokenKind}
use Rattle.vap_lex.specs.declared.token.TokenKind.TheVariants as token
use Rattle.site_check.specs.Spots.{is_name, is_word}

-- these words, and then that of a token unless it is among them
abbrev pub with_word : List (List ℕ) → TokenKind → List (List ℕ)
with_word words (token.Word name) = with_name words name
with_word words (token.Number n) = words
with_word words (token.Sign s) = words

-- a token is a word that is none of these
abbrev pub is_new : List (List ℕ) → TokenKind → Bool
is_new words (token.Word name) = not (among words name)
is_new words (token.Number n) = false
is_new words (token.Sign s) = false

-- one of these tokens is this word
abbrev pub has_word : List Token → List ℕ → Bool
has_word ts word = list_any (λ t. is_word word t.kind) ts

-- stands for a token that there isn't
abbrev pub no_token : Token
no_token = record { place = 0; line = 0; kind = token.Number (pos 0) }

-- of each of these tokens that is marked as the first of its word, it is the first
pub record AreFirsts (ts : List Token) (firsts : List Bool) : Type 0 where
  pub size : length firsts ≡ length ts
  pub first : (i : ℕ) (word : List ℕ) → i < length ts → slice_index_or firsts i false ≡ true →
      is_word word (slice_index_or ts i no_token).kind ≡ true → has_word (take i ts) word ≡ false

-- the token at place k is the first one between two places that is this name in this line or a later one
pub record IsNamedAt (ts : List Token) (from to line : ℕ) (name : List ℕ) (k : ℕ) : Type 0 where
  pub at_least : from ≤ k
  pub below : k < to
  pub here : is_name line name (slice_index_or ts k no_token) ≡ true
  pub before : (i : ℕ) → from ≤ i → i < k → is_name line name (slice_index_or ts i no_token) ≡ false

-- the first one between two places that is this name, where one is
abbrev pub IsNamed : List Token → ℕ → ℕ → ℕ → List ℕ → Option ℕ → Type 0
IsNamed ts from to line name (Some k) = IsNamedAt ts from to line name k
IsNamed ts from to line name None = (i : ℕ) → from ≤ i → i < to → is_name line name (slice_index_or ts i no_token) ≡ false
