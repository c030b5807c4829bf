-- What forms of a grammar spell.
use Rattle.std.specs.Prelude.{◌≡◌, ℕ, zero, suc, ◌+◌, List, [], ◌∷◌, ◌++◌, Option, Some}
use Rattle.vap_lex.specs.declared.token.Token.{Token}
use Rattle.vap_parse.specs.declared.kind.Kind.TheVariants as k
use Rattle.vap_parse.specs.Kinds.{kind_of}
use Rattle.vap_parse.specs.Input.{Mark, fine, max_operators}

-- a token with its mark
abbrev pub Marked : Type 0
Marked = Token × Mark

-- the tokens without their marks
abbrev pub tokens : List Marked → List Token
tokens [] = []
tokens (m ∷ ms) = m.0 ∷ tokens ms

-- these tokens, each of them fine
abbrev pub fines : List Token → List Marked
fines [] = []
fines (t ∷ ts) = (t, fine) ∷ fines ts

-- A form spells a value by marked tokens. The first number is how many operators the statement may still have, the
-- last one how many are left behind them.
abbrev pub Form : Type 0 → Type 1
Form A = ℕ → List Marked → A → ℕ → Type 0

-- one token of those that `pick` picks, with its mark
pub data Picks {A : Type 0} (pick : Token → Option A) (mark : ℕ → Token → Mark) (left : ℕ → ℕ) : ℕ → List Marked → A → ℕ →
    Type 0 where
  picks : (o : ℕ) (t : Token) (x : A) → pick t ≡ Some x → Picks pick mark left o ((t, mark o t) ∷ []) x (left o)

-- no token
pub data Gives {A : Type 0} (x : A) : ℕ → List Marked → A → ℕ → Type 0 where
  gives : (o : ℕ) → Gives x o [] x o

-- one form, and then one that may depend on the value of the first
pub data Then {A B : Type 0} (P : Form A) (Q : A → Form B) : ℕ → List Marked → B → ℕ → Type 0 where
  then_ : (o m n : ℕ) (a b : List Marked) (x : A) (y : B) → P o a x m → Q x m b y n → Then P Q o (a ++ b) y n

-- one of two forms
pub data Either {A : Type 0} (P Q : Form A) : ℕ → List Marked → A → ℕ → Type 0 where
  this : (o n : ℕ) (ms : List Marked) (x : A) → P o ms x n → Either P Q o ms x n
  that : (o n : ℕ) (ms : List Marked) (x : A) → Q o ms x n → Either P Q o ms x n

-- any number of rounds, each of which makes the next value of the last one
pub data Many {A : Type 0} (Q : A → Form A) : A → ℕ → List Marked → A → ℕ → Type 0 where
  none : (x : A) (o : ℕ) → Many Q x o [] x o
  round : (x y z : A) (o m n : ℕ) (a b : List Marked) → Q x o a y m → Many Q y m b z n → Many Q x o (a ++ b) z n

-- a form whose operators are counted from the beginning
pub data Anew {A : Type 0} (P : Form A) : ℕ → List Marked → A → ℕ → Type 0 where
  counted : (o n : ℕ) (ms : List Marked) (x : A) → P max_operators ms x n → Anew P o ms x n

-- Any tokens up to the one that closes a round bracket, where `depth` more round brackets are open.
pub data Inside : ℕ → List Marked → Type 0 where
  last : (t : Token) → kind_of t.kind ≡ k.Close → Inside zero ((t, fine) ∷ [])
  shut : (depth : ℕ) (t : Token) (ms : List Marked) → kind_of t.kind ≡ k.Close → Inside depth ms →
      Inside (suc depth) ((t, fine) ∷ ms)
  opened : (depth : ℕ) (t : Token) (ms : List Marked) → kind_of t.kind ≡ k.Open → Inside (depth + 1) ms →
      Inside depth ((t, fine) ∷ ms)
  other : (depth : ℕ) (t : Token) (ms : List Marked) → (kind_of t.kind ≡ k.Open → ⊥) → (kind_of t.kind ≡ k.Close → ⊥) →
      Inside depth ms → Inside depth ((t, fine) ∷ ms)

-- tokens in which round brackets are balanced, and the bracket behind them
pub data Balanced : ℕ → List Marked → Unit {0} → ℕ → Type 0 where
  balanced : (o : ℕ) (ms : List Marked) → Inside zero ms → Balanced o ms tt o

infixl 10 ◌>>=◌
-- one form, and then one that may depend on its value; `do` writes it
abbrev pub ◌>>=◌ : {A B : Type 0} → Form A → (A → Form B) → Form B
P >>= Q = Then P Q

infixl 10 ◌>>◌
-- one form, and then another
abbrev pub ◌>>◌ : {A B : Type 0} → Form A → Form B → Form B
P >> Q = Then P (λ _. Q)
