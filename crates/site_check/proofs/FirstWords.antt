-- Which tokens are the first of their word, while they are passed.
use Rattle.std.proofs.Common.{◌≡◌, ◌∙◌, ◌||◌, ◌&&◌, ℕ, ◌+◌, ◌<◌, ◌≤◌, suc, zero, Bool, true, false, not, cond, List, [], ◌∷◌, ◌++◌, length, take, get_or, refl, ap, sym, subst, arith, inl, inr}
use Rattle.std.specs.List.{list_any}
use Rattle.std.specs.Str.{bytes_eq}
use Rattle.std.proofs.lemmas.Bool.{cases_eq}
use Rattle.std.proofs.lemmas.Grind.{common_steps}
use Rattle.std.proofs.lemmas.List.{take_more}
use Rattle.std.proofs.lemmas.List.Folds.{list_any-append}
use Rattle.std.proofs.lemmas.Slice.Eq.{bytes_eq-Decides}
use Rattle.vap_check.specs.Names.{among, with_name}
use Rattle.vap_lex.specs.declared.token.Token.{Token}
use Rattle.vap_lex.specs.declared.token.TokenKind.{TokenKind}
use Rattle.vap_lex.specs.declared.token.TokenKind.TheVariants as token
use Rattle.site_check.specs.Firsts.{AreFirsts, has_word, is_new, no_token, with_word}
use Rattle.site_check.specs.Spots.{is_word}

or_false : (a : Bool) → (a || false) ≡ a
or_false true = refl
or_false false = refl

same_either : (n w : List ℕ) → bytes_eq w n ≡ bytes_eq n w
same_either n w = elim (bytes_eq n w) as (λ b. bytes_eq n w ≡ b → bytes_eq w n ≡ b) [
  | true ↦ λ e. (let is : n ≡ w = (bytes_eq-Decides n w).0 e in (bytes_eq-Decides w n).1 (sym is))
  | false ↦ λ e. elim (bytes_eq w n) as (λ b. bytes_eq w n ≡ b → b ≡ false) [
    | true ↦ λ k. (let is : w ≡ n = (bytes_eq-Decides w n).0 k in (let there : bytes_eq n w ≡ true = (bytes_eq-Decides n w).1 (sym is) in sym there ∙ e))
    | false ↦ λ k. refl
  ] refl
] refl

-- the words of these tokens were noted, and no others
pub record AreNoted (ts : List Token) (words : List (List ℕ)) (firsts : List Bool) (i : ℕ) : Type 0 where
  pub size : length firsts ≡ i
  pub noted : (word : List ℕ) → among words word ≡ has_word (take i ts) word
  pub first : (k : ℕ) (word : List ℕ) → k < i → get_or firsts k false ≡ true → is_word word (get_or ts k no_token).kind ≡ true →
      has_word (take k ts) word ≡ false

pub none_seen : (ts : List Token) → AreNoted ts [] [] 0
none_seen ts = record { size = refl; noted = λ word. refl; first = λ k word below. absurd (omega (arith, below)) }

-- a word that is equal to one of these is one of these
known : (words : List (List ℕ)) (name word : List ℕ) → among words name ≡ true → among words word ≡ (among words word || bytes_eq name word)
known words name word there = here (bytes_eq name word) refl
  where
    here : (b : Bool) → bytes_eq name word ≡ b → among words word ≡ (among words word || b)
    here true is =
        (let same : name ≡ word = (bytes_eq-Decides name word).0 is in
        let both : among words word ≡ true = ap (among words) (sym same) ∙ there in
        both ∙ sym (ap (λ b. b || true) both))
    here false is = sym (or_false (among words word))

name-more : (words : List (List ℕ)) (name word : List ℕ) →
    among (with_name words name) word ≡ (among words word || bytes_eq name word)
name-more words name word = here (among words name) refl
  where
    here : (b : Bool) → among words name ≡ b → among (cond b words (words ++ name ∷ [])) word ≡ (among words word || bytes_eq name word)
    here true is = known words name word is
    here false is =
        list_any-append (bytes_eq word) words (name ∷ [])
        ∙ ap (λ b. among words word || b) (or_false (bytes_eq word name) ∙ same_either name word)

word-more : (words : List (List ℕ)) (kind : TokenKind) (word : List ℕ) →
    among (with_word words kind) word ≡ (among words word || is_word word kind)
word-more words (token.Word name) word = name-more words name word
word-more words (token.Number n) word = sym (or_false (among words word))
word-more words (token.Sign s) word = sym (or_false (among words word))

has-more : (ts : List Token) (t : Token) (word : List ℕ) → has_word (ts ++ t ∷ []) word ≡ (has_word ts word || is_word word t.kind)
has-more ts t word = list_any-append (λ u. is_word word u.kind) ts (t ∷ []) ∙ ap (λ b. has_word ts word || b) (or_false (is_word word t.kind))

new-first : (words : List (List ℕ)) (kind : TokenKind) (word : List ℕ) → is_new words kind ≡ true → is_word word kind ≡ true →
    among words word ≡ false
new-first words (token.Word name) word new is =
    let same : name ≡ word = (bytes_eq-Decides name word).0 is in subst (λ w. among words w ≡ false) same (flip (among words name) new)
  where
    flip : (b : Bool) → not b ≡ true → b ≡ false
    flip true e = sym e
    flip false e = refl
new-first words (token.Number n) word new is = absurd (cc)
new-first words (token.Sign s) word new is = absurd (cc)

get-old : (xs : List Bool) (x : Bool) (place : ℕ) → place < length xs → get_or (xs ++ x ∷ []) place false ≡ get_or xs place false
get-old xs x place h = grind (arith, common_steps)

get-new : (xs : List Bool) (x : Bool) → get_or (xs ++ x ∷ []) (length xs) false ≡ x
get-new xs x = grind (arith, common_steps)

length-more : (xs : List Bool) (x : Bool) → length (xs ++ x ∷ []) ≡ length xs + 1
length-more xs x = grind (arith, common_steps)

first-more : (ts : List Token) (words : List (List ℕ)) (firsts : List Bool) (i : ℕ) (new : Bool) → AreNoted ts words firsts i →
    new ≡ is_new words (get_or ts i no_token).kind → (k : ℕ) (word : List ℕ) → k < i + 1 → get_or (firsts ++ new ∷ []) k false ≡ true →
    is_word word (get_or ts k no_token).kind ≡ true → has_word (take k ts) word ≡ false
first-more ts words firsts i new are so k word below marked is = elim (cases_eq k i) [
  | inl e ↦ (
      let at : get_or (firsts ++ new ∷ []) k false ≡ new = ap (λ n. get_or (firsts ++ new ∷ []) n false) (e ∙ sym are.size) ∙ get-new firsts new in
      let is-new : is_new words (get_or ts i no_token).kind ≡ true = sym so ∙ (sym at ∙ marked) in
      let here : is_word word (get_or ts i no_token).kind ≡ true = ap (λ n. is_word word (get_or ts n no_token).kind) (sym e) ∙ is in
      ap (λ n. has_word (take n ts) word) e
      ∙ (sym (are.noted word) ∙ new-first words (get_or ts i no_token).kind word is-new here))
  | inr ne ↦ are.first k word (omega (arith, below, ne)) (sym (get-old firsts new k (omega (arith, below, ne, are.size))) ∙ marked) is
]

-- the words and the marks of one token more
more : (ts : List Token) (words words' : List (List ℕ)) (firsts : List Bool) (i : ℕ) (new : Bool) → AreNoted ts words firsts i →
    i < length ts → words' ≡ with_word words (get_or ts i no_token).kind → new ≡ is_new words (get_or ts i no_token).kind →
    AreNoted ts words' (firsts ++ new ∷ []) (i + 1)
more ts words words' firsts i new are below next so = record {
  size = length-more firsts new ∙ ap (λ n. n + 1) are.size;
  noted = λ word.
      ap (λ ws. among ws word) next
      ∙ (word-more words (get_or ts i no_token).kind word
      ∙ (ap (λ b. b || is_word word (get_or ts i no_token).kind) (are.noted word)
      ∙ (sym (has-more (take i ts) (get_or ts i no_token) word)
      ∙ ap (λ us. has_word us word) (sym (take_more ts i no_token below)))));
  first = first-more ts words firsts i new are so;
}

-- the token at a place that there is, whatever stands for one that there isn't
pub any_default : (ts : List Token) (k : ℕ) (d e : Token) → k < length ts → get_or ts k d ≡ get_or ts k e
any_default ts k d e h = grind (arith, common_steps)

-- one token more
pub one_more : (ts : List Token) (words words' : List (List ℕ)) (firsts : List Bool) (i : ℕ) (new : Bool) (t : Token) →
    AreNoted ts words firsts i → i < length ts → t ≡ get_or ts i t → words' ≡ with_word words t.kind → new ≡ is_new words t.kind →
    AreNoted ts words' (firsts ++ new ∷ []) (i + 1)
one_more ts words words' firsts i new t are below at next so =
    let here : t ≡ get_or ts i no_token = at ∙ any_default ts i t no_token below in
    more ts words words' firsts i new are below (next ∙ ap (λ (u : Token). with_word words u.kind) here)
    (so ∙ ap (λ (u : Token). is_new words u.kind) here)

-- all tokens
pub all_noted : (ts : List Token) (words : List (List ℕ)) (firsts : List Bool) (i : ℕ) → AreNoted ts words firsts i → i ≡ length ts →
    AreFirsts ts firsts
all_noted ts words firsts i are end = record {
  size = are.size ∙ end;
  first = λ k word below marked is. are.first k word (omega (arith, below, end)) marked is;
}

any-before : (test : Token → Bool) (ts : List Token) (k i : ℕ) → list_any test (take k ts) ≡ false → i < k → i < length ts →
    test (get_or ts i no_token) ≡ false
any-before test [] k i none below within = absurd (omega (arith, within))
any-before test (t ∷ ts) zero i none below within = absurd (omega (arith, below))
any-before test (t ∷ ts) (suc k) zero none below within = left (test t) (list_any test (take k ts)) none
  where
    left : (a b : Bool) → (a || b) ≡ false → a ≡ false
    left true b e = e
    left false b e = refl
any-before test (t ∷ ts) (suc k) (suc i) none below within =
    any-before test ts k i (right (test t) (list_any test (take k ts)) none) (omega (arith, below)) (omega (arith, within))
  where
    right : (a b : Bool) → (a || b) ≡ false → b ≡ false
    right true b e = absurd (cc)
    right false b e = e

-- no token before the first one of its word is that word
pub none_before : (ts : List Token) (firsts : List Bool) (k i : ℕ) (word : List ℕ) → AreFirsts ts firsts → k < length ts →
    get_or firsts k false ≡ true → is_word word (get_or ts k no_token).kind ≡ true → i < k →
    is_word word (get_or ts i no_token).kind ≡ false
none_before ts firsts k i word are within marked is below =
    any-before (λ t. is_word word t.kind) ts k i (are.first k word within marked is) below (omega (arith, within, below))
