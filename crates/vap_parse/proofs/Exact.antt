-- The parse is exact: it gives the tree of a text, or the first token that is refused.
--
-- How the proofs go together. A *law* (Law) ties a parser of Descent.antt to a form of Grammar.antt. It says five things:
-- the form spells something (`some`); what it spells begins with some kinds of tokens alone (`heads`); the parser reads
-- whatever the form spells, if the next token can't belong to it (`complete`, with After for tokens that bear a mark);
-- what the parser reads the form spells, and what it refuses stands behind a beginning of what the form spells (`meets`,
-- with Meets); and what the parser answers at a token doesn't depend on the tokens behind it (`local`, with Alike).
-- Laws are put together as the rules are: one token (Tokens), one after another and one of two (Law), any number of
-- rounds (Rounds), the brackets of TRACE (Skips). So ExprLaws and TextLaws have a line or two for each rule, of which the
-- kinds of tokens are found by trying them all (AllKinds). This file takes the law of a whole program: its `complete`
-- gives that each text is read, its `meets` that what is read is a text and that a refused token follows a beginning of a
-- text, and its `local` that no text goes on with the refused token. Shrinks tells the loops that a round takes a token,
-- and Keeps what the tree of any text keeps.
use Rattle.std.proofs.Common.{◌≡◌, ℕ, suc, ◌<◌, ◌≤◌, length, List, [], ◌∷◌, ◌++◌, append_assoc, Ok, Err, refl, sym, ap, subst, ◌∙◌, inl, inr, arith}
use Rattle.std.specs.Prelude.{◌⊎◌}
use Rattle.std.proofs.lemmas.List.{append-nil, length-append}
use Rattle.std.proofs.lemmas.Bool.{cases_lt}
use Rattle.vap_lex.specs.declared.token.Token.{Token}
use Rattle.vap_ast.specs.Syntax.{Program}
use Rattle.vap_parse.specs.declared.kind.Reason.{Reason}
use Rattle.vap_parse.specs.declared.kind.Reason.TheVariants.{Unexpected, Frequency, TooDeep}
use Rattle.vap_parse.specs.Input.{Mark, fine, deep, wrong, Input, input, Outcome, Parser, and_then, ◌>>=◌, pure, ended, ended_at, max_operators}
use Rattle.vap_parse.specs.Kinds.{same_kind}
use Rattle.vap_parse.specs.Descent.{program, text, outcome_of}
use Rattle.vap_parse.specs.Forms.{Marked, tokens, fines}
use Rattle.vap_parse.specs.Grammar as g
use Rattle.vap_parse.specs.Grammar.{Text, Accepts, Begins, Ends, Refuses}
use Rattle.vap_parse.proofs.After.{after, then_after}
use Rattle.vap_parse.proofs.Meets.{Bears, Found, Lost, Meets, step, Within, NeverGrows}
use Rattle.vap_parse.proofs.Alike.{Alike, cut, more, Agree, past, both_ok, both_err, Past, Local, local_bind}
use Rattle.vap_parse.proofs.TextLaws.{program_law}

abbrev pub start : List Token → Input
start ts = input ts max_operators

abbrev finish : Program → Parser Program
finish p = ended >>= (λ _. pure p)

-- ---- a text is read

finish_ends : (p : Program) (n : ℕ) → finish p (input [] n) ≡ Ok (p, input [] n)
unfolding ended
finish_ends p n = refl

text_complete : (ms : List Marked) (p : Program) → (s : Text ms p) → text (start (tokens ms ++ [])) ≡ after ms (Ok (p, input [] s.0)) []
unfolding text same_kind
text_complete ms p s =
    ap (λ (out : Outcome Program). and_then out finish) (program_law.complete max_operators s.0 ms p s.1 [] refl)
    ∙ then_after ms (Ok (p, input [] s.0)) [] finish
    ∙ ap (λ (out : Outcome Program). after ms out []) (finish_ends p s.0)

-- ---- what is read is a text

abbrev Texts : List Marked → Program → ℕ → Type 0
Texts ms p n = Text ms p

meets_finish : (beginning : List Token) (p : Program) (ts : List Token) (n : ℕ) → Text (fines beginning) p → Meets Texts beginning ts (finish p (input ts n))
unfolding ended
meets_finish beginning p [] n s = record { beginning = []; parts = refl; spelled = subst (λ (f : List Token). Text (fines f) p) (sym (append-nil beginning)) s }
meets_finish beginning p (t ∷ ts) n s = record {
  beginning = [];
  parts = refl;
  more = [];
  value = p;
  left = n;
  shows = tt;
  spelled = subst (λ (ms : List Marked). Text ms p) (sym (append-nil (fines (beginning ++ []))))
      (subst (λ (f : List Token). Text (fines f) p) (sym (append-nil beginning)) s);
}

meets_text : (ts : List Token) → Meets Texts [] ts (outcome_of ts)
unfolding outcome_of text
meets_text ts = step (g.program max_operators) Texts ts (program (start ts)) finish (program_law.meets max_operators ts)
    (λ ms p n s. ([], p, n, subst (λ (ms : List Marked). Text ms p) (sym (append-nil ms)) (n, s)))
    (λ beginning p j s. meets_finish beginning p j.rest j.operators (j.operators, s))

-- ---- the answer at a token depends on the tokens up to that one alone

ended_within : (ts : List Token) (n : ℕ) → Within (length ts) (ended_at ts n)
ended_within [] n = omega arith
ended_within (t ∷ ts) n = omega arith

never_finish : (p : Program) → NeverGrows (finish p)
unfolding ended
never_finish p i = by (ended_at i.rest i.operators) (ended_within i.rest i.operators) where
  by : (o : Outcome (Unit {0})) → Within (length i.rest) o → Within (length i.rest) (and_then o (λ (_ : Unit {0}). pure p))
  by (Ok q) within = within
  by (Err e) within = within

local_finish : (p : Program) → Local (finish p)
unfolding ended
local_finish p z z' n _ _ (cut t) = both_err Unexpected (t ∷ z) (t ∷ z') (cut t)
local_finish p z z' n _ _ (more t {r = r} {r' = r'} a) = both_err Unexpected (t ∷ r) (t ∷ r') (more t a)

local_text : Local text
unfolding text
local_text = local_bind program finish program_law.local never_finish local_finish

-- ---- nothing is left behind a text

abbrev AtEnd : {A : Type 0} → Outcome A → Type 0
AtEnd (Ok p) = p.1.rest ≡ []
AtEnd (Err e) = Unit {0}

then_at_end : {A B : Type 0} (o : Outcome A) (f : A → Parser B) → ((x : A) (i : Input) → AtEnd (f x i)) → AtEnd (and_then o f)
then_at_end (Ok p) f ends = ends p.0 p.1
then_at_end (Err e) f ends = tt

finish_at_end : (p : Program) (i : Input) → AtEnd (finish p i)
unfolding ended
finish_at_end p i = by i.rest i.operators where
  by : (ts : List Token) (n : ℕ) → AtEnd (and_then (ended_at ts n) (λ (_ : Unit {0}). pure p))
  by [] n = refl
  by (t ∷ ts) n = tt

text_at_end : (ts : List Token) → AtEnd (outcome_of ts)
unfolding outcome_of text
text_at_end ts = then_at_end (program (start ts)) finish finish_at_end

-- ---- marks

tokens-fines : (ts : List Token) → tokens (fines ts) ≡ ts
tokens-fines [] = refl
tokens-fines (t ∷ ts) = ap (λ (s : List Token). t ∷ s) (tokens-fines ts)

after-fines : {A : Type 0} (ts : List Token) (out : Outcome A) (rest : List Token) → after (fines ts) out rest ≡ out
after-fines [] out rest = refl
after-fines (t ∷ ts) out rest = after-fines ts out rest

err_is : {A : Type 0} (e f : Reason × List Token) → ◌≡◌ {A = Outcome A} (Err e) (Err f) → e ≡ f
err_is e f same = cc

ok_is : (x y : Program × Input) → ◌≡◌ {A = Outcome Program} (Ok x) (Ok y) → x ≡ y
ok_is x y same = cc

past_err : {A : Type 0} (c : ℕ) (o : Outcome A) (why : Reason) (r : List Token) → o ≡ Err (why, r) → Past c o → length r < c
past_err {A = A} c o why r e gone = let moved = subst (λ (q : Outcome A). Past c q) e gone in omega arith

-- what is refused for its mark is not unexpected
marked : {A : Type 0} (ms : List Marked) (p : A × Input) (rest r : List Token) → after ms (Ok p) rest ≡ Err (Unexpected, r) → ⊥
marked [] p rest r e = absurd cc
marked ((t, fine) ∷ ms) p rest r e = marked ms p rest r e
marked ((t, deep) ∷ ms) p rest r e = absurd (let why : TooDeep ≡ Unexpected = ap (λ (q : Reason × List Token). q.0) (err_is _ _ e) in cc)
marked ((t, wrong) ∷ ms) p rest r e = absurd (let why : Frequency ≡ Unexpected = ap (λ (q : Reason × List Token). q.0) (err_is _ _ e) in cc)

pub accepted : (ts : List Token) (p : Program) → (s : Accepts ts p) → outcome_of ts ≡ Ok (p, input [] s.0)
unfolding outcome_of
accepted ts p s =
    let same : tokens (fines ts) ++ [] ≡ ts = append-nil (tokens (fines ts)) ∙ tokens-fines ts in
    sym (ap (λ (s : List Token). text (start s)) same) ∙ text_complete (fines ts) p s ∙ after-fines ts (Ok (p, input [] s.0)) []

-- ---- what is answered

is_accepted : (ts : List Token) (p : Program) (i : Input) → i.rest ≡ [] → Found Texts [] ts p i → Accepts ts p
is_accepted ts p i end m =
    let same : ts ≡ m.beginning = m.parts ∙ ap (λ (r : List Token). m.beginning ++ r) end ∙ append-nil m.beginning in
    subst (λ (s : List Token). Text (fines s) p) (sym same) m.spelled

alike_beginning : (beginning : List Token) (t : Token) (s s' : List Token) → Alike s s' (beginning ++ t ∷ s) (beginning ++ t ∷ s')
alike_beginning [] t s s' = cut t
alike_beginning (u ∷ beginning) t s s' = more u (alike_beginning beginning t s s')

agree_err : {A : Type 0} (z z' : List Token) (o o' : Outcome A) (why : Reason) (r : List Token) → Agree z z' o o' → o ≡ Err (why, r) →
    length z < length r → (r' : List Token) × (o' ≡ Err (why, r')) × Alike z z' r r'
agree_err z z' o o' why r (past _ _ h) e len = absurd (let gone = past_err (suc (length z)) o why r e h in omega arith)
agree_err z z' o o' why r (both_ok x n s s' a) e len = absurd cc
agree_err z z' o o' why r (both_err w s s' a) e len = (
  s',
  (let same : w ≡ why = ap (λ (q : Reason × List Token). q.0) (err_is _ _ e) in cc),
  subst (λ (q : List Token). Alike z z' q s') (ap (λ (q : Reason × List Token). q.1) (err_is _ _ e)) a,
)

alike_longer : {z z' r r' : List Token} → Alike z z' r r' → length z < length r
alike_longer (cut t) = omega arith
alike_longer (more t a) = omega (arith, alike_longer a)

at_cut : {z z' q r' : List Token} (t : Token) → Alike z z' q r' → q ≡ t ∷ z → r' ≡ t ∷ z'
at_cut t (cut u) e = let same : u ≡ t = cc in cc
at_cut {z = z} t (more u {r = r} a) e = absurd
    (let same : r ≡ z = cc in let longer = alike_longer a in let len : length r ≡ length z = ap length same in omega arith)

tokens_marked : (beginning : List Token) (t : Token) (mark : Mark) (ms : List Marked) →
    tokens ((fines beginning ++ (t, mark) ∷ []) ++ ms) ≡ beginning ++ t ∷ tokens ms
tokens_marked [] t mark ms = refl
tokens_marked (u ∷ beginning) t mark ms = ap (λ (s : List Token). u ∷ s) (tokens_marked beginning t mark ms)

no_further : (beginning : List Token) (t : Token) (s : List Token) (mark : Mark) → outcome_of (beginning ++ t ∷ s) ≡ Err (Unexpected, t ∷ s) →
    Begins (fines beginning ++ (t, mark) ∷ []) → ⊥
unfolding outcome_of
no_further beginning t s mark e begins =
    let ms = (fines beginning ++ (t, mark) ∷ []) ++ begins.0 in
    let same : tokens ms ++ [] ≡ beginning ++ t ∷ tokens begins.0 =
    append-nil (tokens ms) ∙ tokens_marked beginning t mark begins.0 in
    let agree = local_text s (tokens begins.0) max_operators (beginning ++ t ∷ s) (beginning ++ t ∷ tokens begins.0)
    (alike_beginning beginning t s (tokens begins.0)) in
    let stopped = agree_err s (tokens begins.0) (text (start (beginning ++ t ∷ s))) (text (start (beginning ++ t ∷ tokens begins.0))) Unexpected
    (t ∷ s) agree e (omega arith) in
    let read : text (start (beginning ++ t ∷ tokens begins.0)) ≡ after ms (Ok (begins.1, input [] begins.2.0)) [] =
    sym (ap (λ (s : List Token). text (start s)) same) ∙ text_complete ms begins.1 begins.2 in
    marked ms (begins.1, input [] begins.2.0) [] stopped.0 (sym read ∙ stopped.1)

grow : (ms : List Marked) (m : Marked) (more : List Marked) → ms ++ m ∷ more ≡ (ms ++ m ∷ []) ++ more
grow ms m b = sym (append_assoc ms (m ∷ []) b)

bad_by : (mark : Mark) (beginning : List Token) (t : Token) (s : List Token) (others : List Marked) (p : Program) → (b : Bears mark (t ∷ s) others) →
    Text (fines beginning ++ others) p → Begins (fines beginning ++ (t, mark) ∷ [])
bad_by mark beginning t s others p b spelled =
    let first : t ≡ b.token = let e = b.first in cc in
    let marks : others ≡ (t, mark) ∷ b.others = b.marked ∙ ap (λ (u : Token). (u, mark) ∷ b.others) (sym first) in (
      b.others,
      p,
      subst (λ (ms : List Marked). Text ms p)
          (ap (λ (ms : List Marked). fines beginning ++ ms) marks ∙ grow (fines beginning) (t, mark) b.others) spelled,
    )

refused_by : (why : Reason) (rest : List Token) (ts : List Token) → outcome_of ts ≡ Err (why, rest) → (m : Lost Texts [] ts why rest) →
    Ends why m.beginning rest
refused_by Unexpected [] ts e m =
    let same : ts ≡ m.beginning = m.parts ∙ append-nil m.beginning in (
      (m.more, m.value, m.spelled),
      λ p whole. absurd
          (let read = accepted m.beginning p whole in let again : outcome_of m.beginning ≡ Err (Unexpected, []) = ap outcome_of (sym same) ∙ e in cc),
    )
refused_by Unexpected (t ∷ s) ts e m =
    ((m.more, m.value, m.spelled), λ mark begins. no_further m.beginning t s mark (ap outcome_of (sym m.parts) ∙ e) begins)
refused_by TooDeep [] ts e m = absurd (let none = m.shows.first in cc)
refused_by Frequency [] ts e m = absurd (let none = m.shows.first in cc)
refused_by TooDeep (t ∷ s) ts e m = bad_by deep m.beginning t s m.more m.value m.shows m.spelled
refused_by Frequency (t ∷ s) ts e m = bad_by wrong m.beginning t s m.more m.value m.shows m.spelled

-- ---- exact

abbrev pub Exact : List Token → Outcome Program → Type 0
Exact ts (Ok p) = Accepts ts p.0
Exact ts (Err e) = Refuses ts e.0 e.1

exact_by : (ts : List Token) (out : Outcome Program) → outcome_of ts ≡ out → AtEnd out → Meets Texts [] ts out → Exact ts out
exact_by ts (Ok p) e end m = is_accepted ts p.0 p.1 end m
exact_by ts (Err f) e end m = (m.beginning, m.parts, refused_by f.0 f.1 ts e m)

pub exact : (ts : List Token) → Exact ts (outcome_of ts)
exact ts = exact_by ts (outcome_of ts) refl (text_at_end ts) (meets_text ts)

-- ---- a text has a tree or a refusal

by_outcome : (ts : List Token) (out : Outcome Program) → Exact ts out → ((p : Program) × Accepts ts p) ⊎ ((w : Reason) × (r : List Token) × Refuses ts w r)
by_outcome ts (Ok p) is = inl (p.0, is)
by_outcome ts (Err e) is = inr (e.0, e.1, is)

pub has_answer : (ts : List Token) → ((p : Program) × Accepts ts p) ⊎ ((w : Reason) × (r : List Token) × Refuses ts w r)
has_answer ts = by_outcome ts (outcome_of ts) (exact ts)

-- ---- a text has one refusal at most

-- a shorter rest begins further on
split : (beginning beginning' rest r : List Token) → beginning ++ rest ≡ beginning' ++ r → length r ≤ length rest → (m : List Token)
    × (beginning' ≡ beginning ++ m) × (rest ≡ m ++ r)
split [] beginning' rest r e le = (beginning', refl, e)
split (u ∷ beginning) [] rest r e le = absurd
    (let len : length (u ∷ beginning ++ rest) ≡ length r = ap length e in omega (arith, len, length-append beginning rest))
split (u ∷ beginning) (v ∷ beginning') rest r e le =
    let same : u ≡ v = cc in
    let next_ : beginning ++ rest ≡ beginning' ++ r = cc in
    let m = split beginning beginning' rest r next_ le in
    (m.0, ap (λ (ts : List Token). v ∷ ts) m.1 ∙ ap (λ (w : Token). w ∷ (beginning ++ m.0)) (sym same), m.2)

-- a mark that is not fine is the reason of a refusal
module _ (mark : Mark) (why : Reason) (bad : (t : Token) (ms : List Marked) (p : Program × Input) →
    after ((t, mark) ∷ ms) (Ok p) [] ≡ Err (why, t ∷ tokens ms ++ [])) where
  after_bad : (beginning : List Token) (t : Token) (ms : List Marked) (p : Program × Input) →
      after ((fines beginning ++ (t, mark) ∷ []) ++ ms) (Ok p) [] ≡ Err (why, t ∷ tokens ms ++ [])
  after_bad [] t ms p = bad t ms p
  after_bad (u ∷ beginning) t ms p = after_bad beginning t ms p

  bad_refused : (beginning : List Token) (t : Token) (s : List Token) → Begins (fines beginning ++ (t, mark) ∷ []) →
      outcome_of (beginning ++ t ∷ s) ≡ Err (why, t ∷ s)
  unfolding outcome_of
  bad_refused beginning t s begins =
      let ms = (fines beginning ++ (t, mark) ∷ []) ++ begins.0 in
      let same : tokens ms ++ [] ≡ beginning ++ t ∷ tokens begins.0 = append-nil (tokens ms) ∙ tokens_marked beginning t mark begins.0 in
      let read : text (start (beginning ++ t ∷ tokens begins.0)) ≡ Err (why, t ∷ tokens begins.0) =
      sym (ap (λ (s : List Token). text (start s)) same) ∙ text_complete ms begins.1 begins.2 ∙
      after_bad beginning t begins.0 (begins.1, input [] begins.2.0) ∙ ap (λ (ts : List Token). Err (why, t ∷ ts)) (append-nil (tokens begins.0)) in
      let agree = local_text (tokens begins.0) s max_operators (beginning ++ t ∷ tokens begins.0) (beginning ++ t ∷ s)
      (alike_beginning beginning t (tokens begins.0) s) in
      let stopped = agree_err (tokens begins.0) s (text (start (beginning ++ t ∷ tokens begins.0))) (text (start (beginning ++ t ∷ s))) why
      (t ∷ tokens begins.0) agree read (omega arith) in
      stopped.1 ∙ ap (λ (r : List Token). Err (why, r)) (at_cut t stopped.2 refl)

-- what follows marks is a refusal no further back
after_length : {A : Type 0} (ms : List Marked) (p : A × Input) (why : Reason) (r : List Token) → after ms (Ok p) [] ≡ Err (why, r) →
    length r ≤ length (tokens ms)
after_length [] p why r e = absurd cc
after_length ((t, fine) ∷ ms) p why r e = omega (arith, after_length ms p why r e)
after_length ((t, deep) ∷ ms) p why r e =
    let same : t ∷ tokens ms ++ [] ≡ r = ap (λ (q : Reason × List Token). q.1) (err_is _ _ e) in
    let len : length (t ∷ tokens ms ++ []) ≡ length r = ap length same in
    omega (arith, len, length-append (tokens ms) [])
after_length ((t, wrong) ∷ ms) p why r e =
    let same : t ∷ tokens ms ++ [] ≡ r = ap (λ (q : Reason × List Token). q.1) (err_is _ _ e) in
    let len : length (t ∷ tokens ms ++ []) ≡ length r = ap length same in
    omega (arith, len, length-append (tokens ms) [])

tokens-ahead : (beginning : List Token) (ms : List Marked) → tokens (fines beginning ++ ms) ≡ beginning ++ tokens ms
tokens-ahead [] ms = refl
tokens-ahead (t ∷ beginning) ms = ap (λ (s : List Token). t ∷ s) (tokens-ahead beginning ms)

after-ahead : {A : Type 0} (beginning : List Token) (ms : List Marked) (out : Outcome A) (rest : List Token) →
    after (fines beginning ++ ms) out rest ≡ after ms out rest
after-ahead [] ms out rest = refl
after-ahead (t ∷ beginning) ms out rest = after-ahead beginning ms out rest

-- A beginning of a text is read without a refusal.
stuck_inside : (beginning : List Token) (u : Token) (m rest : List Token) (why : Reason) → Begins (fines (beginning ++ u ∷ m)) →
    outcome_of ((beginning ++ u ∷ m) ++ rest) ≡ Err (why, u ∷ m ++ rest) → ⊥
unfolding outcome_of
stuck_inside beginning u m rest why begins e =
    let ts = tokens begins.0 in
    let ms = fines (beginning ++ u ∷ m) ++ begins.0 in
    let same : tokens ms ++ [] ≡ beginning ++ u ∷ (m ++ ts) = append-nil (tokens ms) ∙ tokens-ahead (beginning ++ u ∷ m) begins.0 ∙
    append_assoc beginning (u ∷ m) ts in
    let read : text (start (beginning ++ u ∷ (m ++ ts))) ≡ after begins.0 (Ok (begins.1, input [] begins.2.0)) [] =
    sym (ap (λ (s : List Token). text (start s)) same) ∙ text_complete ms begins.1 begins.2 ∙
    after-ahead (beginning ++ u ∷ m) begins.0 (Ok (begins.1, input [] begins.2.0)) [] in
    let refused : text (start (beginning ++ u ∷ (m ++ rest))) ≡ Err (why, u ∷ m ++ rest) =
    ap (λ (s : List Token). text (start s)) (sym (append_assoc beginning (u ∷ m) rest)) ∙ e in
    let agree = local_text (m ++ rest) (m ++ ts) max_operators (beginning ++ u ∷ (m ++ rest)) (beginning ++ u ∷ (m ++ ts))
    (alike_beginning beginning u (m ++ rest) (m ++ ts)) in
    let stopped = agree_err (m ++ rest) (m ++ ts) (text (start (beginning ++ u ∷ (m ++ rest)))) (text (start (beginning ++ u ∷ (m ++ ts)))) why
    (u ∷ m ++ rest) agree refused (omega arith) in
    let place : stopped.0 ≡ u ∷ (m ++ ts) = at_cut u stopped.2 refl in
    let le = after_length begins.0 (begins.1, input [] begins.2.0) why stopped.0 (sym read ∙ stopped.1) in
    let len : length stopped.0 ≡ length (u ∷ (m ++ ts)) = ap length place in
    absurd (omega (arith, len, le, length-append m ts))

inside : (beginning before m rest r : List Token) (why : Reason) → beginning ≡ before ++ m → r ≡ m ++ rest → Begins (fines beginning) →
    outcome_of (beginning ++ rest) ≡ Err (why, r) → length rest < length r → ⊥
inside beginning before [] rest r why is r-is begins e longer = absurd (let len : length r ≡ length rest = ap length r-is in omega arith)
inside beginning before (u ∷ m) rest r why is r-is begins e longer =
    stuck_inside before u m rest why (subst (λ (f : List Token). Begins (fines f)) is begins)
    (ap (λ (f : List Token). outcome_of (f ++ rest)) (sym is) ∙ e ∙ ap (λ (r : List Token). Err (why, r)) r-is)

reaches : (beginning rest : List Token) (why : Reason) (r : List Token) → Begins (fines beginning) → outcome_of (beginning ++ rest) ≡ Err (why, r) →
    Refuses (beginning ++ rest) why r → length rest < length r → ⊥
reaches beginning rest why r begins e refuses longer =
    let m = split refuses.0 beginning r rest (sym refuses.1) (omega arith) in
    inside beginning refuses.0 m.0 rest r why m.1 m.2 begins e longer

-- a longer beginning begins, so a shorter one does
begins_less : (beginning : List Token) (t : Token) (m : List Token) (b : List Marked) → Begins (fines (beginning ++ t ∷ m) ++ b) →
    Begins (fines beginning ++ (t, fine) ∷ [])
begins_less beginning t m b begins = ((fines m ++ b) ++ begins.0, begins.1, subst (λ (ms : List Marked). Text ms begins.1) (marks beginning) begins.2) where
  marks : (beginning : List Token) → (fines (beginning ++ t ∷ m) ++ b) ++ begins.0 ≡ (fines beginning ++ (t, fine) ∷ []) ++ ((fines m ++ b) ++ begins.0)
  marks [] = refl
  marks (u ∷ beginning) = ap (λ (ms : List Marked). (u, fine) ∷ ms) (marks beginning)

begins_ends : (why : Reason) (beginning rest : List Token) → Ends why beginning rest → (b : List Marked) × Begins (fines beginning ++ b)
begins_ends Unexpected beginning [] ends =
    ([], (ends.0.0, ends.0.1, subst (λ (ms : List Marked). Text (ms ++ ends.0.0) ends.0.1) (sym (append-nil (fines beginning))) ends.0.2))
begins_ends Unexpected beginning (t ∷ s) ends =
    ([], (ends.0.0, ends.0.1, subst (λ (ms : List Marked). Text (ms ++ ends.0.0) ends.0.1) (sym (append-nil (fines beginning))) ends.0.2))
begins_ends TooDeep beginning [] ends = absurd ends
begins_ends TooDeep beginning (t ∷ s) ends = ((t, deep) ∷ [], ends)
begins_ends Frequency beginning [] ends = absurd ends
begins_ends Frequency beginning (t ∷ s) ends = ((t, wrong) ∷ [], ends)

accepted_begins : (ts : List Token) (p : Program) → Accepts ts p → Begins (fines ts ++ [])
accepted_begins ts p whole = ([], p, subst (λ (ms : List Marked). Text ms p) (sym (append-nil (fines ts ++ []) ∙ append-nil (fines ts))) whole)

-- a refusal at this place or further on
at_or_behind : (beginning : List Token) (t : Token) (s m : List Token) (why : Reason) (beginning' r : List Token) → beginning' ≡ beginning ++ m →
    t ∷ s ≡ m ++ r → Ends why beginning' r → ((mark : Mark) → Begins (fines beginning ++ (t, mark) ∷ []) → ⊥) → (why ≡ Unexpected) × (r ≡ t ∷ s)
at_or_behind beginning t s [] Unexpected beginning' r is r-is ends none = (refl, sym r-is)
at_or_behind beginning t s [] TooDeep beginning' r is r-is ends none =
    let same : beginning' ≡ beginning = is ∙ append-nil beginning in
    let here : Ends TooDeep beginning (t ∷ s) =
    subst (λ (f : List Token). Ends TooDeep f (t ∷ s)) same (subst (λ (q : List Token). Ends TooDeep beginning' q) (sym r-is) ends) in
    absurd (none deep here)
at_or_behind beginning t s [] Frequency beginning' r is r-is ends none =
    let same : beginning' ≡ beginning = is ∙ append-nil beginning in
    let here : Ends Frequency beginning (t ∷ s) =
    subst (λ (f : List Token). Ends Frequency f (t ∷ s)) same (subst (λ (q : List Token). Ends Frequency beginning' q) (sym r-is) ends) in
    absurd (none wrong here)
at_or_behind beginning t s (v ∷ m) why beginning' r is r-is ends none =
    let begins = begins_ends why beginning' r ends in
    let first : v ≡ t = cc in
    let there : Begins (fines (beginning ++ t ∷ m) ++ begins.0) =
    subst (λ (f : List Token). Begins (fines f ++ begins.0)) (is ∙ ap (λ (w : Token). beginning ++ w ∷ m) first) begins.1 in
    absurd (none fine (begins_less beginning t m begins.0 there))

-- the answer of the functions on lists, where the tokens are refused so
unexpected_at : (beginning : List Token) (t : Token) (s : List Token) (out : Outcome Program) → outcome_of (beginning ++ t ∷ s) ≡ out →
    Exact (beginning ++ t ∷ s) out → Ends Unexpected beginning (t ∷ s) → out ≡ Err (Unexpected, t ∷ s)
unexpected_at beginning t s (Ok p) e exact_ ends = absurd (ends.1 fine (begins_less beginning t s [] (accepted_begins (beginning ++ t ∷ s) p.0 exact_)))
unexpected_at beginning t s (Err f) e exact_ ends =
    elim (cases_lt (length (t ∷ s)) (length f.1)) [
      | inl longer ↦ absurd (reaches beginning (t ∷ s) f.0 f.1 ends.0 e exact_ longer)
      | inr le ↦
          let m = split beginning exact_.0 (t ∷ s) f.1 exact_.1 le in
          let at = at_or_behind beginning t s m.0 f.0 exact_.0 f.1 m.1 m.2 exact_.2 ends.1 in
          ap (λ (w : Reason). Err (w, f.1)) at.0 ∙ ap (λ (r : List Token). Err (Unexpected, r)) at.1
    ]

no_rest : (r : List Token) → length r ≤ 0 → r ≡ []
no_rest [] le = refl
no_rest (t ∷ r) le = absurd (omega arith)

at_the_end : (why : Reason) (beginning r : List Token) → r ≡ [] → Ends why beginning r → why ≡ Unexpected
at_the_end Unexpected beginning r none ends = refl
at_the_end TooDeep beginning [] none ends = absurd ends
at_the_end TooDeep beginning (t ∷ r) none ends = absurd cc
at_the_end Frequency beginning [] none ends = absurd ends
at_the_end Frequency beginning (t ∷ r) none ends = absurd cc

too_early : (beginning : List Token) (out : Outcome Program) → outcome_of (beginning ++ []) ≡ out → Exact (beginning ++ []) out →
    Ends Unexpected beginning [] → out ≡ Err (Unexpected, [])
too_early beginning (Ok p) e exact_ ends = absurd (ends.1 p.0 (subst (λ (ts : List Token). Accepts ts p.0) (append-nil beginning) exact_))
too_early beginning (Err f) e exact_ ends =
    elim (cases_lt 0 (length f.1)) [
      | inl longer ↦ absurd (reaches beginning [] f.0 f.1 ends.0 e exact_ longer)
      | inr le ↦
          let none = no_rest f.1 le in
          ap (λ (w : Reason). Err (w, f.1)) (at_the_end f.0 exact_.0 f.1 none exact_.2) ∙ ap (λ (r : List Token). Err (Unexpected, r)) none
    ]

refused_at : (why : Reason) (beginning rest : List Token) → Ends why beginning rest → outcome_of (beginning ++ rest) ≡ Err (why, rest)
refused_at Unexpected beginning [] ends = too_early beginning (outcome_of (beginning ++ [])) refl (exact (beginning ++ [])) ends
refused_at Unexpected beginning (t ∷ s) ends = unexpected_at beginning t s (outcome_of (beginning ++ t ∷ s)) refl (exact (beginning ++ t ∷ s)) ends
refused_at TooDeep beginning [] ends = absurd ends
refused_at TooDeep beginning (t ∷ s) ends = bad_refused deep TooDeep (λ t ms p. refl) beginning t s ends
refused_at Frequency beginning [] ends = absurd ends
refused_at Frequency beginning (t ∷ s) ends = bad_refused wrong Frequency (λ t ms p. refl) beginning t s ends

-- Where the tokens are refused so, that is what is answered: so there is one refusal at most, and none of a text.
pub refused : (ts : List Token) (why : Reason) (rest : List Token) → Refuses ts why rest → outcome_of ts ≡ Err (why, rest)
refused ts why rest refuses = ap outcome_of refuses.1 ∙ refused_at why refuses.0 rest refuses.2

pub one_tree : (ts : List Token) (p q : Program) → Accepts ts p → Accepts ts q → p ≡ q
one_tree ts p q a b = let one = accepted ts p a in let two = accepted ts q b in ap (λ (x : Program × Input). x.0) (ok_is _ _ (sym one ∙ two))

pub one_refusal : (ts : List Token) (v w : Reason) (q r : List Token) → Refuses ts v q → Refuses ts w r → (v ≡ w) × (q ≡ r)
one_refusal ts v w q r a b =
    let same = err_is _ _ (sym (refused ts v q a) ∙ refused ts w r b) in
    (ap (λ (x : Reason × List Token). x.0) same, ap (λ (x : Reason × List Token). x.1) same)

pub apart : (ts : List Token) (p : Program) (w : Reason) (r : List Token) → Accepts ts p → Refuses ts w r → ⊥
apart ts p w r a b = absurd (let one = accepted ts p a in let two = refused ts w r b in cc)

-- ---- how far tokens are a beginning

-- a text is a beginning of one
pub text_begins : (ts : List Token) (p : Program) → Accepts ts p → Begins (fines ts)
text_begins ts p whole = ([], p, subst (λ (ms : List Marked). Text ms p) (sym (append-nil (fines ts))) whole)

-- tokens that end too early are a beginning
pub early_begins : (ts : List Token) (why : Reason) → Refuses ts why [] → Begins (fines ts)
early_begins ts Unexpected refuses =
    subst (λ (s : List Token). Begins (fines s)) (sym (refuses.1 ∙ append-nil refuses.0)) refuses.2.0
early_begins ts TooDeep refuses = absurd refuses.2
early_begins ts Frequency refuses = absurd refuses.2

-- tokens of which one is refused are none
pub refused_never_begins : (ts : List Token) (why : Reason) (t : Token) (s : List Token) → Refuses ts why (t ∷ s) → Begins (fines ts) → ⊥
refused_never_begins ts why t s refuses begins =
    let e = refused ts why (t ∷ s) refuses in
    stuck_inside refuses.0 t s [] why (subst (λ (q : List Token). Begins (fines q)) refuses.1 begins)
    (ap outcome_of (append-nil (refuses.0 ++ t ∷ s) ∙ sym refuses.1) ∙ e ∙ ap (λ (q : List Token). Err (why, t ∷ q)) (sym (append-nil s)))
