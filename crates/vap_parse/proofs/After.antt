-- What a parser answers behind marked tokens.
use Rattle.std.proofs.Common.{◌≡◌, ℕ, List, [], ◌∷◌, ◌++◌, Ok, Err, refl, sym, ap}
use Rattle.vap_lex.specs.declared.token.Token.{Token}
use Rattle.vap_parse.specs.declared.kind.Reason.TheVariants.{Frequency, TooDeep}
use Rattle.vap_parse.specs.Input.{fine, deep, wrong, input, Outcome, Parser, and_then, ◌>>=◌}
use Rattle.vap_parse.specs.Forms.{Marked, tokens}

-- the outcome behind these tokens, or the refusal of the first that is not fine
abbrev pub after : {A : Type 0} → List Marked → Outcome A → List Token → Outcome A
after [] out rest = out
after ((t, fine) ∷ ms) out rest = after ms out rest
after ((t, deep) ∷ ms) out rest = Err (TooDeep, t ∷ tokens ms ++ rest)
after ((t, wrong) ∷ ms) out rest = Err (Frequency, t ∷ tokens ms ++ rest)

pub tokens-append : (a b : List Marked) (rest : List Token) → tokens (a ++ b) ++ rest ≡ tokens a ++ (tokens b ++ rest)
tokens-append [] b rest = refl
tokens-append (m ∷ a) b rest = ap (λ (ts : List Token). m.0 ∷ ts) (tokens-append a b rest)

pub after-append : {A : Type 0} (a b : List Marked) (out : Outcome A) (rest : List Token) →
    after (a ++ b) out rest ≡ after a (after b out rest) (tokens b ++ rest)
after-append [] b out rest = refl
after-append ((t, fine) ∷ a) b out rest = after-append a b out rest
after-append ((t, deep) ∷ a) b out rest = ap (λ (ts : List Token). Err (TooDeep, t ∷ ts)) (tokens-append a b rest)
after-append ((t, wrong) ∷ a) b out rest = ap (λ (ts : List Token). Err (Frequency, t ∷ ts)) (tokens-append a b rest)

pub then_after : {A B : Type 0} (ms : List Marked) (out : Outcome A) (rest : List Token) (f : A → Parser B) →
    and_then (after ms out rest) f ≡ after ms (and_then out f) rest
then_after [] out rest f = refl
then_after ((t, fine) ∷ ms) out rest f = then_after ms out rest f
then_after ((t, deep) ∷ ms) out rest f = refl
then_after ((t, wrong) ∷ ms) out rest f = refl

-- a parser reads this value behind these tokens
abbrev pub Completes : {A : Type 0} → Parser A → ℕ → List Marked → List Token → Outcome A → Type 0
Completes p o ms rest out = p (input (tokens ms ++ rest) o) ≡ after ms out rest

-- one after the other
pub completes_then : {A B : Type 0} (p : Parser A) (f : A → Parser B) (o : ℕ) (a b : List Marked) (rest : List Token) (x : A) (n : ℕ) (out : Outcome B)
    → Completes p o a (tokens b ++ rest) (Ok (x, input (tokens b ++ rest) n)) → Completes (f x) n b rest out → Completes (p >>= f) o (a ++ b) rest out
completes_then p f o a b rest x n out first second =
    rw (tokens-append a b rest, first, then_after a (Ok (x, input (tokens b ++ rest) n)) (tokens b ++ rest) f, second) (sym (after-append a b out rest))
