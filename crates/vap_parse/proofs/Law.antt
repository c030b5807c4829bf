-- What holds of a parser and the form that it reads.
use Rattle.std.proofs.Common.{◌≡◌, ℕ, List, [], ◌∷◌, ◌++◌, Option, Some, None, Ok, Bool, true, false, refl, subst, arith}
use Rattle.std.specs.Prelude.{if◌then◌else◌, not, ◌&&◌}
use Rattle.vap_lex.specs.declared.token.Token.{Token}
use Rattle.vap_parse.specs.declared.kind.Kind.{Kind}
use Rattle.vap_parse.specs.declared.kind.Reason.TheVariants.{Unexpected, Frequency, TooDeep}
use Rattle.vap_parse.specs.Kinds.{kind_of}
use Rattle.vap_parse.specs.Input.{Mark, fine, deep, wrong, input, Parser, kind, kind_first, ◌>>=◌, pure, either, by_mark, picked, token, anew, max_operators}
use Rattle.vap_parse.specs.Forms.{Marked, tokens, fines, Form, Picks, picks, Gives, gives, Then, then_, Either, this, that, Anew, counted}
use Rattle.vap_parse.proofs.AllKinds.{of_all, by_kinds}
use Rattle.vap_parse.proofs.After.{after, Completes, completes_then}
use Rattle.vap_parse.proofs.Meets.{Meets, refuses, step, widen, prefixed, NeverGrows, meets_within}
use Rattle.vap_parse.proofs.Alike.{Alike, cut, more, Agree, past, both_ok, both_err, Local, kind_same, local_bind}

-- some tokens that are spelled so
abbrev pub Example : {A : Type 0} → (List Marked → A → ℕ → Type 0) → Type 0
Example {A} T = (ms : List Marked) × (x : A) × (n : ℕ) × T ms x n

-- the first token is of these kinds; or there is none, if there may be none
abbrev pub Heads : (Kind → Bool) → Bool → List Marked → Type 0
Heads first null [] = null ≡ true
Heads first null (m ∷ ms) = first (kind_of m.0.kind) ≡ true

-- The form begins with the kinds `first`, is empty only where `null`, and is read whole where a kind that is none of
-- `goes` stands behind it.
pub record Law {A : Type 0} (p : Parser A) (T : Form A) (first goes : Kind → Bool) (null : Bool) : Type 0 where
  pub some : (o : ℕ) → Example (T o)
  pub heads : (o n : ℕ) (ms : List Marked) (x : A) → T o ms x n → Heads first null ms
  pub complete : (o n : ℕ) (ms : List Marked) (x : A) → T o ms x n → (rest : List Token) → goes (kind_first rest) ≡ false →
      Completes p o ms rest (Ok (x, input rest n))
  pub meets : (o : ℕ) (ts : List Token) → Meets (T o) [] ts (p (input ts o))
  pub local : Local p

abbrev pub no_kind : Kind → Bool
no_kind k = false

pub never : {A : Type 0} {p : Parser A} {T : Form A} {first goes : Kind → Bool} {null : Bool} → Law p T first goes null → NeverGrows p
never {p = p} {T = T} law i = meets_within (T i.operators) i.rest (p i) (law.meets i.operators i.rest)

-- ---- tests

abbrev pub implies : Bool → Bool → Bool
implies true b = b
implies false b = true

pub implied : (a b : Bool) → implies a b ≡ true → a ≡ true → b ≡ true
implied true b is yes_ = is
implied false b is yes_ = absurd cc

pub implied_not : (a b : Bool) → implies a b ≡ true → b ≡ false → a ≡ false
implied_not true b is no_ = absurd cc
implied_not false b is no_ = refl

pub both_left : (a b : Bool) → (a && b) ≡ true → a ≡ true
both_left true b is = refl
both_left false b is = absurd cc

pub both_right : (a b : Bool) → (a && b) ≡ true → b ≡ true
both_right true b is = is
both_right false b is = absurd cc

-- ---- one token

module _ {A : Type 0} (pick : Token → Option A) (mark : ℕ → Token → Mark) (left : ℕ → ℕ) (first : Kind → Bool)
    (heads : (t : Token) (x : A) → pick t ≡ Some x → first (kind_of t.kind) ≡ true) (t0 : Token) (x0 : A) (is0 : pick t0 ≡ Some x0) where
  marked_after : (m : Mark) (x : A) (t : Token) (rest : List Token) (n : ℕ) → by_mark m x t rest n ≡ after ((t, m) ∷ []) (Ok (x, input rest n)) rest
  marked_after fine x t rest n = refl
  marked_after deep x t rest n = refl
  marked_after wrong x t rest n = refl

  picks_complete : (o n : ℕ) (ms : List Marked) (x : A) → Picks pick mark left o ms x n → (rest : List Token) →
      Completes (token pick mark left) o ms rest (Ok (x, input rest n))
  unfolding token
  picks_complete _ _ _ _ (picks o t x is) rest = rw is (marked_after (mark o t) x t rest (left o))

  picked_meets : (o : ℕ) (t : Token) (s : List Token) (c : Option A) (m : Mark) → pick t ≡ c → mark o t ≡ m →
      Meets (Picks pick mark left o) [] (t ∷ s) (picked c m t s (left o))
  picked_meets o t s None m is marks = refuses (Picks pick mark left o) (t ∷ s) ((t0, mark o t0) ∷ [], x0, left o, picks o t0 x0 is0)
  picked_meets o t s (Some x) fine is marks =
      record { beginning = t ∷ []; parts = refl; spelled = subst (λ (m : Mark). Picks pick mark left o ((t, m) ∷ []) x (left o)) marks (picks o t x is) }
  picked_meets o t s (Some x) deep is marks = record {
    beginning = [];
    parts = refl;
    more = (t, deep) ∷ [];
    value = x;
    left = left o;
    shows = record { token = t; behind = s; others = []; first = refl; marked = refl };
    spelled = subst (λ (m : Mark). Picks pick mark left o ((t, m) ∷ []) x (left o)) marks (picks o t x is);
  }
  picked_meets o t s (Some x) wrong is marks = record {
    beginning = [];
    parts = refl;
    more = (t, wrong) ∷ [];
    value = x;
    left = left o;
    shows = record { token = t; behind = s; others = []; first = refl; marked = refl };
    spelled = subst (λ (m : Mark). Picks pick mark left o ((t, m) ∷ []) x (left o)) marks (picks o t x is);
  }

  picks_meets : (o : ℕ) (ts : List Token) → Meets (Picks pick mark left o) [] ts (token pick mark left (input ts o))
  unfolding token
  picks_meets o [] = refuses (Picks pick mark left o) [] ((t0, mark o t0) ∷ [], x0, left o, picks o t0 x0 is0)
  picks_meets o (t ∷ s) = picked_meets o t s (pick t) (mark o t) refl refl

  picked_local : {z z' : List Token} (n : ℕ) (c : Option A) (m : Mark) (t : Token) (s s' : List Token) → Alike z z' (t ∷ s) (t ∷ s') →
      ((x : A) → Agree z z' (Ok (x, input s n)) (Ok (x, input s' n))) → Agree z z' (picked c m t s n) (picked c m t s' n)
  picked_local n None m t s s' a taken = both_err Unexpected (t ∷ s) (t ∷ s') a
  picked_local n (Some x) fine t s s' a taken = taken x
  picked_local n (Some x) deep t s s' a taken = both_err TooDeep (t ∷ s) (t ∷ s') a
  picked_local n (Some x) wrong t s s' a taken = both_err Frequency (t ∷ s) (t ∷ s') a

  picks_local : Local (token pick mark left)
  unfolding token
  picks_local z z' n _ _ (cut t) = picked_local (left n) (pick t) (mark n t) t z z' (cut t)
      (λ x. past (Ok (x, input z (left n))) (Ok (x, input z' (left n))) (omega arith))
  picks_local z z' n _ _ (more t {r = r} {r' = r'} a) = picked_local (left n) (pick t) (mark n t) t r r' (more t a) (λ x. both_ok x (left n) r r' a)

  picks_heads : (o n : ℕ) (ms : List Marked) (x : A) → Picks pick mark left o ms x n → Heads first false ms
  picks_heads _ _ _ _ (picks o t x is) = heads t x is

  pub picks_law : Law (token pick mark left) (Picks pick mark left) first no_kind false
  picks_law = record {
    some = λ o. ((t0, mark o t0) ∷ [], x0, left o, picks o t0 x0 is0);
    heads = picks_heads;
    complete = λ o n ms x s rest ends. picks_complete o n ms x s rest;
    meets = picks_meets;
    local = picks_local;
  }

-- ---- no token

module _ {A : Type 0} (x : A) where
  gives_heads : (o n : ℕ) (ms : List Marked) (y : A) → Gives x o ms y n → Heads no_kind true ms
  gives_heads _ _ _ _ (gives o) = refl

  gives_complete : (o n : ℕ) (ms : List Marked) (y : A) → Gives x o ms y n → (rest : List Token) → Completes (pure x) o ms rest (Ok (y, input rest n))
  gives_complete _ _ _ _ (gives o) rest = refl

  pub gives_law : Law (pure x) (Gives x) no_kind no_kind true
  gives_law = record {
    some = λ o. ([], x, o, gives o);
    heads = gives_heads;
    complete = λ o n ms y s rest ends. gives_complete o n ms y s rest;
    meets = λ o ts. record { beginning = []; parts = refl; spelled = gives o };
    local = λ z z' n r r' a. both_ok x n r r' a;
  }

-- ---- one after the other

-- the kinds fit together
abbrev then_test : (fp mp : Kind → Bool) → Bool → (fq mq : Kind → Bool) → Bool → (first goes : Kind → Bool) → Kind → Bool
then_test fp mp np fq mq nq first goes k =
    implies (fp k) (first k) && (implies (np && fq k) (first k) && (implies (mq k) (goes k) && (implies (nq && mp k) (goes k) && implies (fq k) (not (mp k)))))

pub true_not : (b : Bool) → not b ≡ true → b ≡ false
true_not true is = absurd cc
true_not false is = refl

both_are : (a b : Bool) → a ≡ true → b ≡ true → (a && b) ≡ true
both_are a b p q = rw (p, q) refl

and_not : (a b : Bool) → a ≡ true → (a && b) ≡ false → b ≡ false
and_not a b p q = rw p at q

module _ {A B : Type 0} (p : Parser A) (P : Form A) (q : A → Parser B) (Q : A → Form B) (fp mp : Kind → Bool) (np : Bool) (fq mq : Kind → Bool)
    (nq : Bool) (first goes : Kind → Bool)
    (one : Law p P fp mp np) (two : (x : A) → Law (q x) (Q x) fq mq nq) (fit : (k : Kind) → then_test fp mp np fq mq nq first goes k ≡ true) where
  begins_one : (k : Kind) → fp k ≡ true → first k ≡ true
  begins_one k is = implied (fp k) (first k) (both_left _ _ (fit k)) is

  begins_two : (k : Kind) → np ≡ true → fq k ≡ true → first k ≡ true
  begins_two k none_ is = implied (np && fq k) (first k) (both_left _ _ (both_right (implies (fp k) (first k)) _ (fit k))) (both_are np (fq k) none_ is)

  ends_two : (k : Kind) → goes k ≡ false → mq k ≡ false
  ends_two k is = implied_not (mq k) (goes k)
      (both_left _ _ (both_right (implies (np && fq k) (first k)) _ (both_right (implies (fp k) (first k)) _ (fit k)))) is

  ends_one : (k : Kind) → nq ≡ true → goes k ≡ false → mp k ≡ false
  ends_one k none_ is =
      and_not nq (mp k) none_ (implied_not (nq && mp k) (goes k)
      (both_left _ _ (both_right (implies (mq k) (goes k)) _
      (both_right (implies (np && fq k) (first k)) _ (both_right (implies (fp k) (first k)) _ (fit k))))) is)

  apart_ : (k : Kind) → fq k ≡ true → mp k ≡ false
  apart_ k is =
      true_not (mp k) (implied (fq k) (not (mp k))
      (both_right (implies (nq && mp k) (goes k)) _
      (both_right (implies (mq k) (goes k)) _ (both_right (implies (np && fq k) (first k)) _ (both_right (implies (fp k) (first k)) _ (fit k))))) is)

  then_heads_by : (a b : List Marked) → Heads fp np a → Heads fq nq b → Heads first (np && nq) (a ++ b)
  then_heads_by [] [] h h' = both_are np nq h h'
  then_heads_by [] (m ∷ b) h h' = begins_two (kind_of m.0.kind) h h'
  then_heads_by (m ∷ a) b h h' = begins_one (kind_of m.0.kind) h

  then_heads : (o n : ℕ) (ms : List Marked) (y : B) → Then P Q o ms y n → Heads first (np && nq) ms
  then_heads _ _ _ _ (then_ o m n a b x y s u) = then_heads_by a b (one.heads o m a x s) ((two x).heads m n b y u)

  behind_one : (b : List Marked) (rest : List Token) → Heads fq nq b → goes (kind_first rest) ≡ false → mp (kind_first (tokens b ++ rest)) ≡ false
  behind_one [] rest h ends = ends_one (kind_first rest) h ends
  behind_one (m ∷ b) rest h ends = apart_ (kind_of m.0.kind) h

  then_complete : (o n : ℕ) (ms : List Marked) (y : B) → Then P Q o ms y n → (rest : List Token) → goes (kind_first rest) ≡ false →
      Completes (p >>= q) o ms rest (Ok (y, input rest n))
  then_complete _ _ _ _ (then_ o m n a b x y s u) rest ends =
      completes_then p q o a b rest x m (Ok (y, input rest n))
      (one.complete o m a x s (tokens b ++ rest) (behind_one b rest ((two x).heads m n b y u) ends))
      ((two x).complete m n b y u rest (ends_two (kind_first rest) ends))

  then_meets : (o : ℕ) (ts : List Token) → Meets (Then P Q o) [] ts ((p >>= q) (input ts o))
  then_meets o ts = step (P o) (Then P Q o) ts (p (input ts o)) q (one.meets o ts)
      (λ ms x n s. let e = (two x).some n in (e.0, e.1, e.2, then_ o n e.2 ms e.0 x e.1 s e.3))
      (λ beginning x j s. prefixed (Q x j.operators) (Then P Q o) beginning j.rest (q x j)
      (λ ms y n u. then_ o j.operators n (fines beginning) ms x y s u) ((two x).meets j.operators j.rest))

  then_some : (o : ℕ) → Example (Then P Q o)
  then_some o = let e = one.some o in let f = (two e.1).some e.2 in (e.0 ++ f.0, f.1, f.2, then_ o e.2 f.2 e.0 f.0 e.1 f.1 e.3 f.3)

  then_by : Law (p >>= q) (Then P Q) first goes (np && nq)
  then_by = record {
    some = then_some;
    heads = then_heads;
    complete = then_complete;
    meets = then_meets;
    local = local_bind p q one.local (λ x. never (two x)) (λ x. (two x).local);
  }

pub then_law : {A B : Type 0} {p : Parser A} {P : Form A} {q : A → Parser B} {Q : A → Form B} {fp mp : Kind → Bool} {np : Bool} {fq mq : Kind → Bool}
    {nq : Bool} (first goes : Kind → Bool)
    → Law p P fp mp np → ((x : A) → Law (q x) (Q x) fq mq nq) → of_all (then_test fp mp np fq mq nq first goes) ≡ true →
    Law (p >>= q) (Then P Q) first goes (np && nq)
then_law {p = p} {P = P} {q = q} {Q = Q} {fp = fp} {mp = mp} {np = np} {fq = fq} {mq = mq} {nq = nq} first goes one two fit =
    then_by p P q Q fp mp np fq mq nq first goes one two (by_kinds (then_test fp mp np fq mq nq first goes) fit)

-- ---- one or the other

abbrev either_test : (test : Kind → Bool) (fp mp fq mq : Kind → Bool) → Bool → (first goes : Kind → Bool) → Kind → Bool
either_test test fp mp fq mq nq first goes k =
    implies (fp k) (first k && test k) && (implies (fq k) (first k && not (test k)) &&
    (implies (mp k) (goes k) && (implies (mq k) (goes k) && implies (nq && test k) (goes k))))

module _ {A : Type 0} (test : Kind → Bool) (p : Parser A) (P : Form A) (q : Parser A) (Q : Form A) (fp mp fq mq : Kind → Bool) (nq : Bool)
    (first goes : Kind → Bool)
    (one : Law p P fp mp false) (two : Law q Q fq mq nq) (fit : (k : Kind) → either_test test fp mp fq mq nq first goes k ≡ true) where
  ones : (k : Kind) → fp k ≡ true → (first k && test k) ≡ true
  ones k is = implied (fp k) (first k && test k) (both_left _ _ (fit k)) is

  twos : (k : Kind) → fq k ≡ true → (first k && not (test k)) ≡ true
  twos k is = implied (fq k) (first k && not (test k)) (both_left _ _ (both_right (implies (fp k) (first k && test k)) _ (fit k))) is

  after_two : (k : Kind) → (implies (mp k) (goes k) && (implies (mq k) (goes k) && implies (nq && test k) (goes k))) ≡ true
  after_two k = both_right (implies (fq k) (first k && not (test k))) _ (both_right (implies (fp k) (first k && test k)) _ (fit k))

  ends_this : (k : Kind) → goes k ≡ false → mp k ≡ false
  ends_this k is = implied_not (mp k) (goes k) (both_left _ _ (after_two k)) is

  ends_that : (k : Kind) → goes k ≡ false → mq k ≡ false
  ends_that k is = implied_not (mq k) (goes k) (both_left _ _ (both_right (implies (mp k) (goes k)) _ (after_two k))) is

  ends_none : (k : Kind) → nq ≡ true → goes k ≡ false → test k ≡ false
  ends_none k none_ is = and_not nq (test k) none_
      (implied_not (nq && test k) (goes k) (both_right (implies (mq k) (goes k)) _ (both_right (implies (mp k) (goes k)) _ (after_two k))) is)

  heads_this : (ms : List Marked) → Heads fp false ms → Heads first nq ms
  heads_this [] h = absurd cc
  heads_this (m ∷ ms) h = both_left _ _ (ones (kind_of m.0.kind) h)

  heads_that : (ms : List Marked) → Heads fq nq ms → Heads first nq ms
  heads_that [] h = h
  heads_that (m ∷ ms) h = both_left _ _ (twos (kind_of m.0.kind) h)

  either_heads : (o n : ℕ) (ms : List Marked) (x : A) → Either P Q o ms x n → Heads first nq ms
  either_heads _ _ _ _ (this o n ms x s) = heads_this ms (one.heads o n ms x s)
  either_heads _ _ _ _ (that o n ms x s) = heads_that ms (two.heads o n ms x s)

  tests_this : (ms : List Marked) (rest : List Token) → Heads fp false ms → test (kind_first (tokens ms ++ rest)) ≡ true
  tests_this [] rest h = absurd cc
  tests_this (m ∷ ms) rest h = both_right (first (kind_of m.0.kind)) _ (ones (kind_of m.0.kind) h)

  tests_that : (ms : List Marked) (rest : List Token) → Heads fq nq ms → goes (kind_first rest) ≡ false → test (kind_first (tokens ms ++ rest)) ≡ false
  tests_that [] rest h ends = ends_none (kind_first rest) h ends
  tests_that (m ∷ ms) rest h ends = true_not _ (both_right (first (kind_of m.0.kind)) _ (twos (kind_of m.0.kind) h))

  either_complete : (o n : ℕ) (ms : List Marked) (x : A) → Either P Q o ms x n → (rest : List Token) → goes (kind_first rest) ≡ false →
      Completes (either test p q) o ms rest (Ok (x, input rest n))
  unfolding kind
  either_complete _ _ _ _ (this o n ms x s) rest ends =
      rw (tests_this ms rest (one.heads o n ms x s)) (one.complete o n ms x s rest (ends_this (kind_first rest) ends))
  either_complete _ _ _ _ (that o n ms x s) rest ends =
      rw (tests_that ms rest (two.heads o n ms x s) ends) (two.complete o n ms x s rest (ends_that (kind_first rest) ends))

  either_choice : (b : Bool) (o : ℕ) (ts : List Token) → Meets (Either P Q o) [] ts (if b then p (input ts o) else q (input ts o))
  either_choice true o ts = widen (P o) (Either P Q o) [] ts (p (input ts o)) (λ ms x n s. this o n ms x s) (one.meets o ts)
  either_choice false o ts = widen (Q o) (Either P Q o) [] ts (q (input ts o)) (λ ms x n s. that o n ms x s) (two.meets o ts)

  choice_local : (b : Bool) (z z' : List Token) (n : ℕ) (r r' : List Token) → Alike z z' r r' →
      Agree z z' (if b then p (input r n) else q (input r n)) (if b then p (input r' n) else q (input r' n))
  choice_local true z z' n r r' a = one.local z z' n r r' a
  choice_local false z z' n r r' a = two.local z z' n r r' a

  either_local : Local (either test p q)
  unfolding kind
  either_local z z' n r r' a = rw (kind_same a) (choice_local (test (kind_first r')) z z' n r r' a)

  either_by : Law (either test p q) (Either P Q) first goes nq
  either_by = record {
    some = λ o. let e = one.some o in (e.0, e.1, e.2, this o e.2 e.0 e.1 e.3);
    heads = either_heads;
    complete = either_complete;
    meets = λ o ts. either_choice (test (kind (input ts o))) o ts;
    local = either_local;
  }

pub either_law : {A : Type 0} {p : Parser A} {P : Form A} {q : Parser A} {Q : Form A} {fp mp fq mq : Kind → Bool} {nq : Bool} (test first goes : Kind → Bool)
    → Law p P fp mp false → Law q Q fq mq nq → of_all (either_test test fp mp fq mq nq first goes) ≡ true → Law (either test p q) (Either P Q) first goes nq
either_law {p = p} {P = P} {q = q} {Q = Q} {fp = fp} {mp = mp} {fq = fq} {mq = mq} {nq = nq} test first goes one two fit =
    either_by test p P q Q fp mp fq mq nq first goes one two (by_kinds (either_test test fp mp fq mq nq first goes) fit)

-- ---- operators counted anew

module _ {A : Type 0} (p : Parser A) (P : Form A) (first goes : Kind → Bool) (null : Bool) (one : Law p P first goes null) where
  anew_heads : (o n : ℕ) (ms : List Marked) (x : A) → Anew P o ms x n → Heads first null ms
  anew_heads _ _ _ _ (counted o n ms x s) = one.heads max_operators n ms x s

  anew_complete : (o n : ℕ) (ms : List Marked) (x : A) → Anew P o ms x n → (rest : List Token) → goes (kind_first rest) ≡ false →
      Completes (anew p) o ms rest (Ok (x, input rest n))
  anew_complete _ _ _ _ (counted o n ms x s) rest ends = one.complete max_operators n ms x s rest ends

  anew_by : Law (anew p) (Anew P) first goes null
  anew_by = record {
    some = λ o. let e = one.some max_operators in (e.0, e.1, e.2, counted o e.2 e.0 e.1 e.3);
    heads = anew_heads;
    complete = anew_complete;
    meets = λ o ts. widen (P max_operators) (Anew P o) [] ts (p (input ts max_operators)) (λ ms x n s. counted o n ms x s) (one.meets max_operators ts);
    local = λ z z' n r r' a. one.local z z' max_operators r r' a;
  }

pub anew_law : {A : Type 0} {p : Parser A} {P : Form A} {first goes : Kind → Bool} {null : Bool} → Law p P first goes null →
    Law (anew p) (Anew P) first goes null
anew_law {p = p} {P = P} {first = first} {goes = goes} {null = null} one = anew_by p P first goes null one
