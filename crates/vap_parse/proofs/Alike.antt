-- What a parser answers at a token depends on the tokens up to that one alone.
use Rattle.std.proofs.Common.{◌≡◌, ℕ, suc, ◌<◌, length, List, ◌∷◌, Ok, Err, refl, arith}
use Rattle.vap_lex.specs.declared.token.Token.{Token}
use Rattle.vap_parse.specs.declared.kind.Reason.{Reason}
use Rattle.vap_parse.specs.Input.{input, Outcome, Parser, and_then, kind_first, ◌>>=◌}
use Rattle.vap_parse.proofs.Meets.{Within, NeverGrows}

-- Two lists begin alike, up to a token behind which the one has z and the other z'.
pub data Alike (z z' : List Token) : List Token → List Token → Type 0 where
  cut : (t : Token) → Alike z z' (t ∷ z) (t ∷ z')
  more : (t : Token) {r r' : List Token} → Alike z z' r r' → Alike z z' (t ∷ r) (t ∷ r')

abbrev pub Past : {A : Type 0} → ℕ → Outcome A → Type 0
Past c (Ok p) = length p.1.rest < c
Past c (Err e) = length e.1 < c

-- Both stop at the same place, or the first goes past the place.
pub data Agree {A : Type 0} (z z' : List Token) : Outcome A → Outcome A → Type 0 where
  past : (o o' : Outcome A) → Past (suc (length z)) o → Agree z z' o o'
  both_ok : (x : A) (n : ℕ) (r r' : List Token) → Alike z z' r r' → Agree z z' (Ok (x, input r n)) (Ok (x, input r' n))
  both_err : (why : Reason) (r r' : List Token) → Alike z z' r r' → Agree z z' (Err (why, r)) (Err (why, r'))

abbrev pub Local : {A : Type 0} → Parser A → Type 0
Local p = (z z' : List Token) (n : ℕ) (r r' : List Token) → Alike z z' r r' → Agree z z' (p (input r n)) (p (input r' n))

pub kind_same : {z z' : List Token} {r r' : List Token} → Alike z z' r r' → kind_first r ≡ kind_first r'
kind_same (cut t) = refl
kind_same (more t a) = refl

pub is_some : {z z' : List Token} {r r' : List Token} → Alike z z' r r' → (0 < length r) × (0 < length r')
is_some (cut t) = (omega arith, omega arith)
is_some (more t a) = (omega arith, omega arith)

pub past_then : {A B : Type 0} (c : ℕ) (o : Outcome A) (f : A → Parser B) → Past c o → ((x : A) → NeverGrows (f x)) → Past c (and_then o f)
past_then c (Ok p) f gone never = still (length p.1.rest) c (f p.0 p.1) (never p.0 p.1) gone where
  still : {B : Type 0} (n c : ℕ) (o : Outcome B) → Within n o → n < c → Past c o
  still n c (Ok p) within lt = omega arith
  still n c (Err e) within lt = omega arith
past_then c (Err e) f gone never = gone

pub agree_then : {A B : Type 0} (z z' : List Token) (o o' : Outcome A) (f : A → Parser B) → Agree z z' o o' → ((x : A) → NeverGrows (f x)) →
    ((x : A) → Local (f x)) → Agree z z' (and_then o f) (and_then o' f)
agree_then z z' o o' f (past _ _ h) never local = past (and_then o f) (and_then o' f) (past_then (suc (length z)) o f h never)
agree_then z z' o o' f (both_ok x n r r' a) never local = local x z z' n r r' a
agree_then z z' o o' f (both_err why r r' a) never local = both_err why r r' a

pub local_bind : {A B : Type 0} (p : Parser A) (f : A → Parser B) → Local p → ((x : A) → NeverGrows (f x)) → ((x : A) → Local (f x)) → Local (p >>= f)
local_bind p f first never then_ z z' n r r' a = agree_then z z' (p (input r n)) (p (input r' n)) f (first z z' n r r' a) never then_
