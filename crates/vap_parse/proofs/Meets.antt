-- What is read is spelled so, and what is refused stands behind the beginning of what is spelled.
use Rattle.std.proofs.Common.{◌≡◌, ℕ, ◌≤◌, length, List, [], ◌∷◌, ◌++◌, append_assoc, Ok, Err, refl, sym, ap, subst, ◌∙◌, arith}
use Rattle.std.proofs.lemmas.List.{length-append}
use Rattle.vap_lex.specs.declared.token.Token.{Token}
use Rattle.vap_parse.specs.declared.kind.Reason.{Reason}
use Rattle.vap_parse.specs.declared.kind.Reason.TheVariants.{Unexpected, Frequency, TooDeep}
use Rattle.vap_parse.specs.Input.{Mark, fine, deep, wrong, Input, Outcome, Parser, and_then}
use Rattle.vap_parse.specs.Forms.{Marked, fines}

-- a refused token bears the reason as its mark
pub record Bears (mark : Mark) (rest : List Token) (more : List Marked) : Type 0 where
  pub token : Token
  pub behind : List Token
  pub others : List Marked
  pub first : rest ≡ token ∷ behind
  pub marked : more ≡ (token, mark) ∷ others

abbrev pub Shows : Reason → List Token → List Marked → Type 0
Shows Unexpected rest more = Unit {0}
Shows TooDeep rest more = Bears deep rest more
Shows Frequency rest more = Bears wrong rest more

module _ {A : Type 0} (T : List Marked → A → ℕ → Type 0) where
  -- behind `pre`, some of the tokens complete what T spells
  pub record Found (pre ts : List Token) (x : A) (j : Input) : Type 0 where
    pub beginning : List Token
    pub parts : ts ≡ beginning ++ j.rest
    pub spelled : T (fines (pre ++ beginning)) x j.operators

  -- some of the tokens are a beginning of what T spells
  pub record Lost (pre ts : List Token) (why : Reason) (rest : List Token) : Type 0 where
    pub beginning : List Token
    pub parts : ts ≡ beginning ++ rest
    pub more : List Marked
    pub value : A
    pub left : ℕ
    pub shows : Shows why rest more
    pub spelled : T (fines (pre ++ beginning) ++ more) value left

  abbrev pub Meets : List Token → List Token → Outcome A → Type 0
  Meets pre ts (Ok p) = Found pre ts p.0 p.1
  Meets pre ts (Err e) = Lost pre ts e.0 e.1

  abbrev pub Completed : List Marked → Type 0
  Completed ms = (b : List Marked) × (y : A) × (n : ℕ) × T (ms ++ b) y n

  pub onward : (pre ts beginning rest : List Token) (out : Outcome A) → ts ≡ beginning ++ rest → Meets (pre ++ beginning) rest out → Meets pre ts out
  onward pre ts beginning rest (Ok p) parts m = record {
    beginning = beginning ++ m.beginning;
    parts = parts ∙ ap (λ (r : List Token). beginning ++ r) m.parts ∙ sym (append_assoc beginning m.beginning p.1.rest);
    spelled = subst (λ (ts : List Token). T (fines ts) p.0 p.1.operators) (append_assoc pre beginning m.beginning) m.spelled;
  }
  onward pre ts beginning rest (Err e) parts m = record {
    beginning = beginning ++ m.beginning;
    parts = parts ∙ ap (λ (r : List Token). beginning ++ r) m.parts ∙ sym (append_assoc beginning m.beginning e.1);
    more = m.more;
    value = m.value;
    left = m.left;
    shows = m.shows;
    spelled = subst (λ (ts : List Token). T (fines ts ++ m.more) m.value m.left) (append_assoc pre beginning m.beginning) m.spelled;
  }

  -- the next token is refused
  pub refuses : (ts : List Token) → Completed [] → Lost [] ts Unexpected ts
  refuses ts done = record { beginning = []; parts = refl; more = done.0; value = done.1; left = done.2; shows = tt; spelled = done.3 }

pub fines-append : (a b : List Token) → fines (a ++ b) ≡ fines a ++ fines b
fines-append [] b = refl
fines-append (t ∷ a) b = ap (λ (ms : List Marked). (t, fine) ∷ ms) (fines-append a b)

bears_more : (mark : Mark) (rest : List Token) (ms b : List Marked) → Bears mark rest ms → Bears mark rest (ms ++ b)
bears_more mark rest ms b s = record {
  token = s.token;
  behind = s.behind;
  others = s.others ++ b;
  first = s.first;
  marked =
      ap (λ (m : List Marked). m ++ b) s.marked;
}

shows_more : (why : Reason) (rest : List Token) (ms b : List Marked) → Shows why rest ms → Shows why rest (ms ++ b)
shows_more Unexpected rest ms b shows = tt
shows_more TooDeep rest ms b shows = bears_more deep rest ms b shows
shows_more Frequency rest ms b shows = bears_more wrong rest ms b shows

-- what R spells is a part of what T spells
lost_in : {A B : Type 0} (R : List Marked → A → ℕ → Type 0) (T : List Marked → B → ℕ → Type 0) (ts : List Token) (why : Reason) (rest : List Token) →
    Lost R [] ts why rest
    → ((ms : List Marked) (x : A) (n : ℕ) → R ms x n → Completed T ms) → Lost T [] ts why rest
lost_in R T ts why rest m lost =
    let done = lost (fines m.beginning ++ m.more) m.value m.left m.spelled in
    record {
      beginning = m.beginning;
      parts = m.parts;
      more = m.more ++ done.0;
      value = done.1;
      left = done.2;
      shows = shows_more why rest m.more done.0 m.shows;
      spelled = subst (λ (ms : List Marked). T ms done.1 done.2) (append_assoc (fines m.beginning) m.more done.0) done.3;
    }

pub step : {A B : Type 0} (R : List Marked → A → ℕ → Type 0) (T : List Marked → B → ℕ → Type 0) (ts : List Token) (out : Outcome A)
    (f : A → Parser B) → Meets R [] ts out
    → ((ms : List Marked) (x : A) (n : ℕ) → R ms x n → Completed T ms)
    → ((beginning : List Token) (x : A) (j : Input) → R (fines beginning) x j.operators → Meets T beginning j.rest (f x j))
    → Meets T [] ts (and_then out f)
step R T ts (Ok p) f m lost found = onward T [] ts m.beginning p.1.rest (f p.0 p.1) m.parts (found m.beginning p.0 p.1 m.spelled)
step R T ts (Err e) f m lost found = lost_in R T ts e.0 e.1 m lost

-- what R spells is spelled by T
pub widen : {A : Type 0} (R T : List Marked → A → ℕ → Type 0) (pre ts : List Token) (out : Outcome A) →
    ((ms : List Marked) (x : A) (n : ℕ) → R ms x n → T ms x n) → Meets R pre ts out → Meets T pre ts out
widen R T pre ts (Ok p) into m = record { beginning = m.beginning; parts = m.parts; spelled = into _ p.0 p.1.operators m.spelled }
widen R T pre ts (Err e) into m = record
    { beginning = m.beginning; parts = m.parts; more = m.more; value = m.value; left = m.left; shows = m.shows; spelled = into _ m.value m.left m.spelled }

-- what R spells, behind `pre`, is what T spells
pub prefixed : {A : Type 0} (R T : List Marked → A → ℕ → Type 0) (pre ts : List Token) (out : Outcome A) →
    ((ms : List Marked) (x : A) (n : ℕ) → R ms x n → T (fines pre ++ ms) x n) → Meets R [] ts out → Meets T pre ts out
prefixed R T pre ts (Ok p) into m = record {
  beginning = m.beginning;
  parts = m.parts;
  spelled =
      subst (λ (ms : List Marked). T ms p.0 p.1.operators) (sym (fines-append pre m.beginning)) (into (fines m.beginning) p.0 p.1.operators m.spelled);
}
prefixed R T pre ts (Err e) into m = record {
  beginning = m.beginning;
  parts = m.parts;
  more = m.more;
  value = m.value;
  left = m.left;
  shows = m.shows;
  spelled = subst (λ (ms : List Marked). T ms m.value m.left)
      (let same : fines pre ++ (fines m.beginning ++ m.more) ≡ fines (pre ++ m.beginning) ++ m.more = simp (fines-append, append_assoc) in same)
      (into (fines m.beginning ++ m.more) m.value m.left m.spelled);
}

-- ---- so no parser makes the rest longer

abbrev pub Within : {A : Type 0} → ℕ → Outcome A → Type 0
Within n (Ok p) = length p.1.rest ≤ n
Within n (Err e) = length e.1 ≤ n

abbrev pub NeverGrows : {A : Type 0} → Parser A → Type 0
NeverGrows p = (i : Input) → Within (length i.rest) (p i)

no_longer : (ts beginning rest : List Token) → ts ≡ beginning ++ rest → length rest ≤ length ts
no_longer ts beginning rest parts = omega (arith, ap length parts, length-append beginning rest)

pub meets_within : {A : Type 0} (T : List Marked → A → ℕ → Type 0) (ts : List Token) (out : Outcome A) → Meets T [] ts out → Within (length ts) out
meets_within T ts (Ok p) m = no_longer ts m.beginning p.1.rest m.parts
meets_within T ts (Err e) m = no_longer ts m.beginning e.1 m.parts
