-- What a parser reads from, and the steps that every rule is made of.
use Rattle.std.specs.Prelude.{ℤ, pos, negsuc, Option, Some, None, ◌≡◌, ℕ, zero, suc, ◌==◌, ◌+◌, Bool, false, if◌then◌else◌, List, [], ◌∷◌, length, Result, Ok, Err}
use Rattle.vap_lex.specs.declared.token.Token.{Token}
use Rattle.vap_lex.specs.declared.token.TokenKind.{TokenKind}
use Rattle.vap_lex.specs.declared.token.TokenKind.TheVariants as t
use Rattle.vap_ast.specs.declared.tree.BinaryOp.{BinaryOp}
use Rattle.sig_types.specs.declared.kinds.ReadingKind.{ReadingKind}
use Rattle.sig_types.specs.declared.kinds.CommandKind.{CommandKind}
use Rattle.sig_types.specs.declared.kinds.TimerKind.{TimerKind}
use Rattle.vap_parse.specs.declared.kind.Kind.{Kind}
use Rattle.vap_parse.specs.declared.kind.Kind.TheVariants as k
use Rattle.vap_parse.specs.declared.kind.Rank.{Rank}
use Rattle.vap_parse.specs.declared.kind.Reason.{Reason}
use Rattle.vap_parse.specs.declared.kind.Reason.TheVariants.{Unexpected, Frequency, TooDeep}
use Rattle.vap_parse.specs.declared.stop.Stop.{Stop}
use Rattle.vap_parse.specs.declared.stop.Stop.TheVariants.{Memory, Refused}
use Rattle.vap_parse.specs.Kinds.{kind_of, same_kind, operator_of, reading_of, command_of, timer_of, aspect_of}

-- the tokens that are left, and how many more operators the statement may have
pub record Input : Type 0 where
  pub rest : List Token
  pub operators : ℕ

-- these tokens, and how many operators may still come
abbrev pub input : List Token → ℕ → Input
input rest operators = record { rest = rest; operators = operators }

-- A token bears a mark: it is fine, or it is the one that passes a limit, or a frequency that is not 1.
pub data Mark : Type 0 where
  fine : Mark
  deep : Mark
  wrong : Mark

-- ---- what a token tells

-- the kind of the first token
abbrev pub kind_first : List Token → Kind
kind_first [] = k.Nothing
kind_first (x ∷ xs) = kind_of x.kind

-- the kind of the next token
unfoldable pub kind : Input → Kind
kind i = kind_first i.rest

-- the word of a token
abbrev pub word_in : TokenKind → Option (List ℕ)
word_in (t.Word w) = Some w
word_in (t.Number n) = None
word_in (t.Sign s) = None

-- the name that a token is: a word that isn't reserved
abbrev pub name_in : TokenKind → Option (List ℕ)
name_in kind = if same_kind (kind_of kind) k.Name then word_in kind else None

-- the number that a token is, which has no sign
abbrev pub number_in : TokenKind → Option ℤ
number_in (t.Number (pos n)) = Some (pos n)
number_in (t.Number (negsuc n)) = None
number_in (t.Word w) = None
number_in (t.Sign s) = None

-- the reading of the aspect whose name a token is
abbrev pub aspect_in : TokenKind → Option ReadingKind
aspect_in (t.Word w) = aspect_of w
aspect_in (t.Number n) = None
aspect_in (t.Sign s) = None

-- the value of a token of this kind
abbrev pub where_kind : {A : Type 0} → Kind → (Token → A) → Token → Option A
where_kind kind value t = if same_kind (kind_of t.kind) kind then Some (value t) else None

-- a value with the line, where there is one
abbrev pub with_line : {A : Type 0} → Option A → ℕ → Option (A × ℕ)
with_line None line = None
with_line (Some a) line = Some (a, line)

-- the line of a token
abbrev pub line_of : Token → ℕ
line_of t = t.line

-- a name with its line
abbrev pub name_at : Token → Option (List ℕ × ℕ)
name_at t = with_line (name_in t.kind) t.line

-- ---- parsers

-- a value and what is left behind it, or a refusal with the tokens from the refused one on
abbrev pub Outcome : Type 0 → Type 0
Outcome A = Result (A × Input) (Reason × List Token)

-- what is read from an input
abbrev pub Parser : Type 0 → Type 0
Parser A = Input → Outcome A

-- goes on with a value, or stays at the refusal
abbrev pub and_then : {A B : Type 0} → Outcome A → (A → Parser B) → Outcome B
and_then (Ok p) f = f p.0 p.1
and_then (Err e) f = Err e

infixl 10 ◌>>=◌
-- one parser, and then one that may depend on its value
abbrev pub ◌>>=◌ : {A B : Type 0} → Parser A → (A → Parser B) → Parser B
p >>= f = λ i. and_then (p i) f

infixl 10 ◌>>◌
-- one parser, and then another
abbrev pub ◌>>◌ : {A B : Type 0} → Parser A → Parser B → Parser B
p >> q = p >>= (λ _. q)

-- a value, for which nothing is read
abbrev pub pure : {A : Type 0} → A → Parser A
pure a = λ i. Ok (a, i)

-- one or the other, by the kind of the next token
abbrev pub either : {A : Type 0} → (Kind → Bool) → Parser A → Parser A → Parser A
either test p q = λ i. if test (kind i) then p i else q i

-- a value with its mark is taken, or refused by its mark
abbrev pub by_mark : {A : Type 0} → Mark → A → Token → List Token → ℕ → Outcome A
by_mark fine a t s n = Ok (a, input s n)
by_mark deep a t s n = Err (TooDeep, t ∷ s)
by_mark wrong a t s n = Err (Frequency, t ∷ s)

-- a token of which nothing was picked is refused
abbrev pub picked : {A : Type 0} → Option A → Mark → Token → List Token → ℕ → Outcome A
picked None mark t s n = Err (Unexpected, t ∷ s)
picked (Some a) mark t s n = by_mark mark a t s n

-- one token of those that `pick` picks; its mark, and the operators left behind it
abbrev pub token_at : {A : Type 0} → (Token → Option A) → (ℕ → Token → Mark) → (ℕ → ℕ) → List Token → ℕ → Outcome A
token_at pick mark left [] n = Err (Unexpected, [])
token_at pick mark left (t ∷ s) n = picked (pick t) (mark n t) t s (left n)

-- one token, as it stands at the beginning of an input
unfoldable pub token : {A : Type 0} → (Token → Option A) → (ℕ → Token → Mark) → (ℕ → ℕ) → Parser A
token pick mark left = λ i. token_at pick mark left i.rest i.operators

-- no token passes a limit
abbrev pub no_limit : ℕ → Token → Mark
no_limit n t = fine

-- as many operators are left
abbrev pub as_many : ℕ → ℕ
as_many n = n

-- the mark of a token of which n more may come: it is too deep where none may
abbrev pub limit : ℕ → Mark
limit zero = deep
limit (suc n) = fine

-- one operator less is left
abbrev pub below : ℕ → ℕ
below zero = zero
below (suc n) = n

-- a token of this kind, and its line
abbrev pub expect : Kind → Parser ℕ
expect kind = token (where_kind kind line_of) no_limit as_many

-- a name, and its line
abbrev pub name : Parser (List ℕ × ℕ)
name = token name_at no_limit as_many

-- a number
abbrev pub number : Parser ℤ
number = token (λ t. number_in t.kind) no_limit as_many

-- a token that opens a level, where this many are left
abbrev pub enter : ℕ → Kind → Parser ℕ
enter levels kind = token (where_kind kind line_of) (λ n t. limit levels) as_many

-- an operator, which is counted
abbrev pub operator : Rank → Parser BinaryOp
operator rank = token (λ t. operator_of rank (kind_of t.kind)) (λ n t. limit n) below

-- the word of a reading
abbrev pub reading : Parser ReadingKind
reading = token (λ t. reading_of (kind_of t.kind)) no_limit as_many

-- the name of an aspect
abbrev pub aspect : Parser ReadingKind
aspect = token (λ t. aspect_in t.kind) no_limit as_many

-- the word of a command, and its line
abbrev pub command : Parser (CommandKind × ℕ)
command = token (λ t. with_line (command_of (kind_of t.kind)) t.line) no_limit as_many

-- the word of a timer command, and its line
abbrev pub timer : Parser (TimerKind × ℕ)
timer = token (λ t. with_line (timer_of (kind_of t.kind)) t.line) no_limit as_many

-- a frequency is 1
abbrev pub is_one : Option ℤ → Bool
is_one (Some (pos n)) = n == 1
is_one (Some (negsuc n)) = false
is_one None = false

-- the number of a frequency is wrong where it is not 1
abbrev pub frequency_mark : ℕ → Token → Mark
frequency_mark n t = if is_one (number_in t.kind) then fine else wrong

-- the number of a frequency
abbrev pub frequency : Parser ℤ
frequency = token (λ t. number_in t.kind) frequency_mark as_many

-- how many operators on two numbers a statement may have, its branches not counted
abbrev pub max_operators : ℕ
max_operators = 900

-- how deep brackets and signs may nest in an expression
abbrev pub max_levels : ℕ
max_levels = 32

-- how deep IF may nest
abbrev pub max_ifs : ℕ
max_ifs = 100

-- the operators are counted anew
abbrev pub anew : {A : Type 0} → Parser A → Parser A
anew p = λ i. p (input i.rest max_operators)

-- how many round brackets are open behind a token, beside the one that is to be closed; None behind the one that closes it
abbrev pub depth_behind : Kind → ℕ → Option ℕ
depth_behind k.Open depth = Some (depth + 1)
depth_behind k.Close zero = None
depth_behind k.Close (suc depth) = Some depth
depth_behind _ depth = Some depth

-- goes on inside, or is done
abbrev pub skip_on : Option ℕ → (ℕ → Outcome (Unit {0})) → Outcome (Unit {0}) → Outcome (Unit {0})
skip_on None deeper done = done
skip_on (Some depth) deeper done = deeper depth

-- goes on by the kind of a token
abbrev pub skip_by : Kind → ℕ → (ℕ → Outcome (Unit {0})) → Outcome (Unit {0}) → Outcome (Unit {0})
skip_by kind depth deeper done = skip_on (depth_behind kind depth) deeper done

-- tokens up to the one that closes a bracket in which `depth` more round brackets are open; n operators may still come
abbrev pub skip : List Token → ℕ → ℕ → Outcome (Unit {0})
skip [] depth n = Err (Unexpected, [])
skip (t ∷ s) depth n = skip_by (kind_of t.kind) depth (λ m. skip s m n) (Ok (tt, input s n))

-- tokens up to the round bracket that closes
unfoldable pub skipped : Parser (Unit {0})
skipped = λ i. skip i.rest 0 i.operators

-- nothing is left
abbrev pub ended_at : List Token → ℕ → Outcome (Unit {0})
ended_at [] n = Ok (tt, input [] n)
ended_at (t ∷ s) n = Err (Unexpected, t ∷ s)

-- the end of the tokens, where nothing is left
unfoldable pub ended : Parser (Unit {0})
ended = λ i. ended_at i.rest i.operators

-- ---- rounds, each of which takes a token, so that one more than there are tokens is enough

-- at most n rounds
unfoldable pub repeat : {A : Type 0} → (Kind → Bool) → (A → Parser A) → ℕ → A → Parser A
repeat test round zero x = pure x
repeat test round (suc n) x = λ i. if test (kind i) then and_then (round x i) (repeat test round n) else Ok (x, i)

-- rounds as long as the next token passes the test
unfoldable pub many : {A : Type 0} → (Kind → Bool) → (A → Parser A) → A → Parser A
many test round x = λ i. repeat test round (suc (length i.rest)) x i

-- ---- what a function that parses ensures: the parser's outcome, unless memory fails

-- memory ran out, or the refusal is the outcome
abbrev pub Stopped : {A : Type 0} → Outcome A → Stop → Input → Type 0
Stopped outcome Memory new = Unit {0}
Stopped outcome (Refused why) new = outcome ≡ Err (why, new.rest)

-- a function that returns what it reads: that is the outcome
abbrev pub Reads : {A : Type 0} → Outcome A → Result A Stop → Input → Type 0
Reads outcome (Ok a) new = outcome ≡ Ok (a, new)
Reads outcome (Err e) new = Stopped outcome e new

-- a function that builds a tree: the outcome is the tree as `view` shows it
abbrev pub Builds : {A B : Type 0} → (B → A) → Outcome A → Result B Stop → Input → Type 0
Builds view outcome (Ok b) new = outcome ≡ Ok (view b, new)
Builds view outcome (Err e) new = Stopped outcome e new

-- a function that leaves its value in an argument: the outcome is that value
abbrev pub Leaves : {A B : Type 0} → Outcome A → Result B Stop → A → Input → Type 0
Leaves outcome (Ok b) value new = outcome ≡ Ok (value, new)
Leaves outcome (Err e) value new = Stopped outcome e new
