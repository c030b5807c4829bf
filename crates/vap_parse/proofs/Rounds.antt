-- Rounds, each of which takes a token.
use Rattle.std.proofs.Common.{◌≡◌, ℕ, zero, suc, ◌<◌, ◌≤◌, length, List, [], ◌∷◌, ◌++◌, Ok, Err, Bool, true, false, refl, ap, ◌∙◌, arith}
use Rattle.std.proofs.lemmas.List.{length-append}
use Rattle.std.specs.Prelude.{if◌then◌else◌, not, ◌&&◌}
use Rattle.vap_lex.specs.declared.token.Token.{Token}
use Rattle.vap_parse.specs.declared.kind.Kind.{Kind}
use Rattle.vap_parse.specs.Kinds.{kind_of}
use Rattle.vap_parse.specs.Input.{Input, input, Outcome, Parser, and_then, kind, kind_first, ◌>>=◌, repeat, many}
use Rattle.vap_parse.specs.Forms.{Marked, tokens, fines, Form, Many, none, round}
use Rattle.vap_parse.proofs.AllKinds.{of_all, by_kinds}
use Rattle.vap_parse.proofs.After.{Completes, completes_then}
use Rattle.vap_parse.proofs.Meets.{Meets, step, prefixed, Within, NeverGrows}
use Rattle.vap_parse.proofs.Alike.{Alike, Agree, past, both_ok, both_err, Local, kind_same, past_then}
use Rattle.vap_parse.proofs.Law.{Law, Heads, implies, implied, implied_not, both_left, both_right, true_not}

-- on success a token is taken
abbrev pub Shorter : {A : Type 0} → ℕ → Outcome A → Type 0
Shorter n (Ok p) = length p.1.rest < n
Shorter n (Err e) = length e.1 ≤ n

module _ {A : Type 0} (p : Parser A) (T : Form A) (first goes : Kind → Bool) (law : Law p T first goes false) where
  taken : (o : ℕ) (beginning ts rest : List Token) (x : A) (n : ℕ) → ts ≡ beginning ++ rest → T o (fines beginning) x n → length rest < length ts
  taken o [] ts rest x n parts s = let none_ : false ≡ true = law.heads o n [] x s in absurd cc
  taken o (t ∷ beginning) ts rest x n parts s = omega (arith, ap length parts, length-append beginning rest)

  no_longer : (beginning ts rest : List Token) → ts ≡ beginning ++ rest → length rest ≤ length ts
  no_longer beginning ts rest parts = omega (arith, ap length parts, length-append beginning rest)

  shorter_by : (o : ℕ) (ts : List Token) (out : Outcome A) → Meets (T o) [] ts out → Shorter (length ts) out
  shorter_by o ts (Ok r) m = taken o m.beginning ts r.1.rest r.0 r.1.operators m.parts m.spelled
  shorter_by o ts (Err e) m = no_longer m.beginning ts e.1 m.parts

pub shorter : {A : Type 0} {p : Parser A} {T : Form A} {first goes : Kind → Bool} → Law p T first goes false → (i : Input) → Shorter (length i.rest) (p i)
shorter {p = p} {T = T} {first = first} {goes = goes} law i = shorter_by p T first goes law i.operators i.rest (p i) (law.meets i.operators i.rest)

again : {A : Type 0} (f g : A → Parser A) (n : ℕ) (o : Outcome A) → Shorter n o → ((y : A) (j : Input) → length j.rest < n → f y j ≡ g y j) →
    and_then o f ≡ and_then o g
again f g n (Ok p) short same = same p.0 p.1 short
again f g n (Err e) short same = refl

agree_again : {A : Type 0} (z z' : List Token) (n n' : ℕ) (o o' : Outcome A) (f f' : A → Parser A) → Agree z z' o o' → Shorter n o → Shorter n' o' →
    ((x : A) → NeverGrows (f x))
    → ((x : A) (m : ℕ) (s s' : List Token) → length s < n → length s' < n' → Alike z z' s s' → Agree z z' (f x (input s m)) (f' x (input s' m))) →
    Agree z z' (and_then o f) (and_then o' f')
agree_again z z' n n' o o' f f' (past _ _ h) short short' grows again_ = past (and_then o f) (and_then o' f') (past_then (suc (length z)) o f h grows)
agree_again z z' n n' o o' f f' (both_ok x m r r' a) short short' grows again_ = again_ x m r r' short short' a
agree_again z z' n n' o o' f f' (both_err why r r' a) short short' grows again_ = both_err why r r' a

abbrev many_test : (test fq mq first goes : Kind → Bool) → Kind → Bool
many_test test fq mq first goes k = implies (fq k) (first k && (test k && not (mq k))) && (implies (mq k) (goes k) && implies (test k) (goes k))

module _ {A : Type 0} (test : Kind → Bool) (q : A → Parser A) (Q : A → Form A) (fq mq first goes : Kind → Bool)
    (one : (x : A) → Law (q x) (Q x) fq mq false) where
  choice : (b : Bool) (x : A) (i : Input) (f g : A → Parser A) → ((y : A) (j : Input) → length j.rest < length i.rest → f y j ≡ g y j) →
      (if b then and_then (q x i) f else Ok (x, i)) ≡ (if b then and_then (q x i) g else Ok (x, i))
  choice true x i f g same = again f g (length i.rest) (q x i) (shorter (one x) i) same
  choice false x i f g same = refl

  enough : (n m : ℕ) (x : A) (i : Input) → length i.rest < n → length i.rest < m → repeat test q n x i ≡ repeat test q m x i
  unfolding repeat
  enough zero m x i a b = absurd (omega arith)
  enough (suc n) zero x i a b = absurd (omega arith)
  enough (suc n) (suc m) x i a b = choice (test (kind i)) x i (repeat test q n) (repeat test q m) (λ y j short. enough n m y j (omega arith) (omega arith))

  once : (x : A) (i : Input) → many test q x i ≡ (if test (kind i) then and_then (q x i) (many test q) else Ok (x, i))
  unfolding many repeat
  once x i = choice (test (kind i)) x i (repeat test q (length i.rest)) (many test q)
      (λ y j short. enough (length i.rest) (suc (length j.rest)) y j short (omega arith))

  -- what is read is spelled so
  repeat_meets : (n : ℕ) (x : A) (o : ℕ) (ts : List Token) → Meets (Many Q x o) [] ts (repeat test q n x (input ts o))
  unfolding repeat
  repeat_meets zero x o ts = record { beginning = []; parts = refl; spelled = none x o }
  repeat_meets (suc n) x o ts = by (test (kind (input ts o))) (repeat_meets n) where
    by : (b : Bool) → ((y : A) (m : ℕ) (s : List Token) → Meets (Many Q y m) [] s (repeat test q n y (input s m)))
        → Meets (Many Q x o) [] ts (if b then and_then (q x (input ts o)) (repeat test q n) else Ok (x, input ts o))
    by false deeper = record { beginning = []; parts = refl; spelled = none x o }
    by true deeper = step (Q x o) (Many Q x o) ts (q x (input ts o)) (repeat test q n) ((one x).meets o ts)
        (λ ms y m s. ([], y, m, round x y y o m m ms [] s (none y m)))
        (λ beginning y j s. prefixed (Many Q y j.operators) (Many Q x o) beginning j.rest (repeat test q n y j)
        (λ ms z m r. round x y z o j.operators m (fines beginning) ms s r) (deeper y j.operators j.rest))

  meets_many : (x : A) (o : ℕ) (ts : List Token) → Meets (Many Q x o) [] ts (many test q x (input ts o))
  unfolding many
  meets_many x o ts = repeat_meets (suc (length ts)) x o ts

  never_repeat : (n : ℕ) (x : A) → NeverGrows (repeat test q n x)
  never_repeat n x i = within (Many Q x i.operators) i.rest (repeat test q n x i) (repeat_meets n x i.operators i.rest) where
    within : (T : List Marked → A → ℕ → Type 0) (ts : List Token) (out : Outcome A) → Meets T [] ts out → Within (length ts) out
    within T ts (Ok p) m = omega (arith, ap length m.parts, length-append m.beginning p.1.rest)
    within T ts (Err e) m = omega (arith, ap length m.parts, length-append m.beginning e.1)

  repeat_local : (n n' : ℕ) (x : A) (z z' : List Token) (o : ℕ) (r r' : List Token) → length r < n → length r' < n' → Alike z z' r r' →
      Agree z z' (repeat test q n x (input r o)) (repeat test q n' x (input r' o))
  unfolding repeat kind
  repeat_local zero n' x z z' o r r' le le' a = absurd (omega arith)
  repeat_local (suc n) zero x z z' o r r' le le' a = absurd (omega arith)
  repeat_local (suc n) (suc n') x z z' o r r' le le' a =
      rw (kind_same a) (by (test (kind_first r')) (λ y m s s' lt lt' b. repeat_local n n' y z z' m s s' (omega arith) (omega arith) b))
    where
      by : (b : Bool) → ((y : A) (m : ℕ) (s s' : List Token) → length s < length r → length s' < length r' → Alike z z' s s' →
          Agree z z' (repeat test q n y (input s m)) (repeat test q n' y (input s' m)))
          → Agree z z' (if b then and_then (q x (input r o)) (repeat test q n) else Ok (x, input r o))
          (if b then and_then (q x (input r' o)) (repeat test q n') else Ok (x, input r' o))
      by true deeper = agree_again z z' (length r) (length r') (q x (input r o)) (q x (input r' o)) (repeat test q n) (repeat test q n')
          ((one x).local z z' o r r' a) (shorter (one x) (input r o)) (shorter (one x) (input r' o)) (never_repeat n) deeper
      by false deeper = both_ok x o r r' a

  local_many : (x : A) → Local (many test q x)
  unfolding many
  local_many x z z' o r r' a = repeat_local (suc (length r)) (suc (length r')) x z z' o r r' (omega arith) (omega arith) a

  module _ (fit : (k : Kind) → many_test test fq mq first goes k ≡ true) where
    begins : (k : Kind) → fq k ≡ true → (first k && (test k && not (mq k))) ≡ true
    begins k is = implied (fq k) (first k && (test k && not (mq k))) (both_left _ _ (fit k)) is

    after_first : (k : Kind) → (implies (mq k) (goes k) && implies (test k) (goes k)) ≡ true
    after_first k = both_right (implies (fq k) (first k && (test k && not (mq k)))) _ (fit k)

    ends_round : (k : Kind) → goes k ≡ false → mq k ≡ false
    ends_round k is = implied_not (mq k) (goes k) (both_left _ _ (after_first k)) is

    ends_all : (k : Kind) → goes k ≡ false → test k ≡ false
    ends_all k is = implied_not (test k) (goes k) (both_right (implies (mq k) (goes k)) _ (after_first k)) is

    many_first : (a b : List Marked) → Heads fq false a → Heads fq true b → Heads fq true (a ++ b)
    many_first [] b h h' = absurd cc
    many_first (m ∷ a) b h h' = h

    many_heads : (x z : A) (o n : ℕ) (ms : List Marked) → Many Q x o ms z n → Heads fq true ms
    many_heads _ _ _ _ _ (none x o) = refl
    many_heads _ _ _ _ _ (round x y z o m n a b s more) = many_first a b ((one x).heads o m a y s) (many_heads y z m n b more)

    firsts : (ms : List Marked) → Heads fq true ms → Heads first true ms
    firsts [] h = h
    firsts (m ∷ ms) h = both_left _ _ (begins (kind_of m.0.kind) h)

    behind_round : (b : List Marked) (rest : List Token) → Heads fq true b → goes (kind_first rest) ≡ false → mq (kind_first (tokens b ++ rest)) ≡ false
    behind_round [] rest h ends = ends_round (kind_first rest) ends
    behind_round (m ∷ b) rest h ends = true_not _
        (both_right (test (kind_of m.0.kind)) _ (both_right (first (kind_of m.0.kind)) _ (begins (kind_of m.0.kind) h)))

    tests : (a b : List Marked) (rest : List Token) → Heads fq false a → test (kind_first (tokens (a ++ b) ++ rest)) ≡ true
    tests [] b rest h = absurd cc
    tests (m ∷ a) b rest h = both_left _ _ (both_right (first (kind_of m.0.kind)) _ (begins (kind_of m.0.kind) h))

    many_complete : (x z : A) (o n : ℕ) (ms : List Marked) → Many Q x o ms z n → (rest : List Token) → goes (kind_first rest) ≡ false →
        Completes (many test q x) o ms rest (Ok (z, input rest n))
    unfolding kind
    many_complete _ _ _ _ _ (none x o) rest ends = once x (input rest o) ∙ rw (ends_all (kind_first rest) ends) refl
    many_complete _ _ _ _ _ (round x y z o m n a b s more) rest ends =
        let goes_on : Completes (q x >>= many test q) o (a ++ b) rest (Ok (z, input rest n)) =
        completes_then (q x) (many test q) o a b rest y m (Ok (z, input rest n))
        ((one x).complete o m a y s (tokens b ++ rest) (behind_round b rest (many_heads y z m n b more) ends)) (many_complete y z m n b more rest ends) in
        once x (input (tokens (a ++ b) ++ rest) o) ∙ rw (tests a b rest ((one x).heads o m a y s)) goes_on

    many_by : (x : A) → Law (many test q x) (Many Q x) first goes true
    many_by x = record {
      some = λ o. ([], x, o, none x o);
      heads = λ o n ms z s. firsts ms (many_heads x z o n ms s);
      complete = λ o n ms z s rest ends. many_complete x z o n ms s rest ends;
      meets = meets_many x;
      local = local_many x;
    }

pub many_law : {A : Type 0} {q : A → Parser A} {Q : A → Form A} {fq mq : Kind → Bool} (test first goes : Kind → Bool) →
    ((x : A) → Law (q x) (Q x) fq mq false) → of_all (many_test test fq mq first goes) ≡ true
    → (x : A) → Law (many test q x) (Many Q x) first goes true
many_law {q = q} {Q = Q} {fq = fq} {mq = mq} test first goes one fit x =
    many_by test q Q fq mq first goes one (by_kinds (many_test test fq mq first goes) fit) x

-- one round of what a loop does
pub many_once : {A : Type 0} {q : A → Parser A} {Q : A → Form A} {fq mq : Kind → Bool} (test : Kind → Bool) → ((x : A) → Law (q x) (Q x) fq mq false)
    → (x : A) (i : Input)
    → many test q x i ≡ (if test (kind i) then and_then (q x i) (many test q) else Ok (x, i))
many_once {q = q} {Q = Q} {fq = fq} {mq = mq} test one x i = once test q Q fq mq fq mq one x i
