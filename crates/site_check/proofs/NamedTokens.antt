-- The first token that is a name.
use Rattle.std.proofs.Common.{◌≡◌, ◌∙◌, ◌&&◌, ℕ, ◌+◌, ◌-◌, ◌<◌, ◌≤◌, zero, suc, Bool, true, false, cond, List, [], ◌∷◌, length, take, drop, get_or, refl, ap, sym, subst, arith, inl, inr, nat_le}
use Rattle.std.specs.Prelude.{None, filter}
use Rattle.std.proofs.lemmas.Bool.{cases_eq}
use Rattle.std.proofs.lemmas.Grind.{common_steps}
use Rattle.vap_lex.specs.declared.token.Token.{Token}
use Rattle.pua_lines.specs.declared.spot.Spot.{Spot}
use Rattle.site_check.specs.Firsts.{AreFirsts, IsNamed, IsNamedAt, no_token}
use Rattle.site_check.specs.Spots.{first_spot, is_name, is_word, token_spot, whole_line}
use Rattle.site_check.proofs.FirstWords.{none_before}

-- from one place up to another one no token is the name
pub record NoneNamed (ts : List Token) (from k line : ℕ) (name : List ℕ) : Type 0 where
  pub none : (i : ℕ) → from ≤ i → i < k → is_name line name (get_or ts i no_token) ≡ false

pub none_start : (ts : List Token) (from line : ℕ) (name : List ℕ) → NoneNamed ts from from line name
none_start ts from line name = record { none = λ i at below. absurd (omega (arith, at, below)) }

-- this one isn't either
pub none_more : (ts : List Token) (from k line : ℕ) (name : List ℕ) → NoneNamed ts from k line name →
    is_name line name (get_or ts k no_token) ≡ false → NoneNamed ts from (k + 1) line name
none_more ts from k line name are is = record {
  none = λ i at below. elim (cases_eq i k) [
    | inl e ↦ ap (λ n. is_name line name (get_or ts n no_token)) e ∙ is
    | inr ne ↦ are.none i at (omega (arith, below, ne))
  ];
}

-- this one is
pub found_here : (ts : List Token) (from to k line : ℕ) (name : List ℕ) → NoneNamed ts from k line name → from ≤ k → k < to →
    is_name line name (get_or ts k no_token) ≡ true → IsNamedAt ts from to line name k
found_here ts from to k line name are at below is = record { at_least = at; below = below; here = is; before = are.none }

-- none is
pub none_all : (ts : List Token) (from to k line : ℕ) (name : List ℕ) → NoneNamed ts from k line name → to ≤ k →
    IsNamed ts from to line name None
none_all ts from to k line name are past = λ i at below. are.none i at (omega (arith, below, past))

no_name : (a b : Bool) → b ≡ false → (a && b) ≡ false
no_name true b e = e
no_name false b e = refl

left_of : (a b : Bool) → (a && b) ≡ true → a ≡ true
left_of true b e = refl
left_of false b e = e

right_of : (a b : Bool) → (a && b) ≡ true → b ≡ true
right_of true b e = e
right_of false b e = absurd (cc)

-- that it is the first of its word tells that it is the first one that is the name
pub marked_named : (ts : List Token) (firsts : List Bool) (from to line k : ℕ) (name : List ℕ) → AreFirsts ts firsts →
    to ≤ length ts → from ≤ k → k < to → (get_or firsts k false && is_name line name (get_or ts k no_token)) ≡ true →
    IsNamedAt ts from to line name k
marked_named ts firsts from to line k name are within at below both =
    let marked : get_or firsts k false ≡ true = left_of (get_or firsts k false) (is_name line name (get_or ts k no_token)) both in
    let is : is_name line name (get_or ts k no_token) ≡ true = right_of (get_or firsts k false) (is_name line name (get_or ts k no_token)) both in
    let word : is_word name (get_or ts k no_token).kind ≡ true =
    right_of (nat_le line (get_or ts k no_token).line) (is_word name (get_or ts k no_token).kind) is in
    record {
      at_least = at;
      below = below;
      here = is;
      before = λ i from-i i-below.
          no_name (nat_le line (get_or ts i no_token).line) (is_word name (get_or ts i no_token).kind)
          (none_before ts firsts k i name are (omega (arith, below, within)) marked word i-below);
    }

minus : (m n : ℕ) → suc m - suc n ≡ m - n
minus m n = omega arith

whole : (n : ℕ) → n - zero ≡ n
whole n = omega arith

-- of the first so many tokens
front : (text : List ℕ) (ts : List Token) (to line k : ℕ) (name : List ℕ) → to ≤ length ts → IsNamedAt ts zero to line name k →
    first_spot text line (filter (is_name line name) (take to ts))
    ≡ token_spot text (get_or ts k no_token).place (get_or ts k no_token).line
front text [] to line k name within is = absurd (omega (arith, within, is.below))
front text (t ∷ ts) zero line k name within is = absurd (omega (arith, is.below))
front text (t ∷ ts) (suc to) line zero name within is =
    ap (λ b. first_spot text line (cond b (t ∷ filter (is_name line name) (take to ts)) (filter (is_name line name) (take to ts)))) is.here
front text (t ∷ ts) (suc to) line (suc k) name within is =
    ap (λ b. first_spot text line (cond b (t ∷ filter (is_name line name) (take to ts)) (filter (is_name line name) (take to ts))))
    (is.before zero (omega arith) (omega arith))
    ∙ front text ts to line k name (omega (arith, within)) (record {
      at_least = omega arith;
      below = omega (arith, is.below);
      here = is.here;
      before = λ i a b. is.before (suc i) (omega arith) (omega (arith, b));
    })

-- where it stands
pub named_there : (text : List ℕ) (ts : List Token) (from to line k : ℕ) (name : List ℕ) → to ≤ length ts → IsNamedAt ts from to line name k →
    first_spot text line (filter (is_name line name) (take (to - from) (drop from ts)))
    ≡ token_spot text (get_or ts k no_token).place (get_or ts k no_token).line
named_there text ts zero to line k name within is =
    ap (λ n. first_spot text line (filter (is_name line name) (take n ts))) (whole to) ∙ front text ts to line k name within is
named_there text [] (suc from) to line k name within is = absurd (omega (arith, within, is.below))
named_there text (t ∷ ts) (suc from) zero line k name within is = absurd (omega (arith, is.below))
named_there text (t ∷ ts) (suc from) (suc to) line zero name within is = absurd (omega (arith, is.at_least))
named_there text (t ∷ ts) (suc from) (suc to) line (suc k) name within is =
    ap (λ n. first_spot text line (filter (is_name line name) (take n (drop from ts)))) (minus to from)
    ∙ named_there text ts from to line k name (omega (arith, within)) (record {
      at_least = omega (arith, is.at_least);
      below = omega (arith, is.below);
      here = is.here;
      before = λ i a b. is.before (suc i) (omega (arith, a)) (omega (arith, b));
    })

-- of the first so many tokens there is none
none_front : (text : List ℕ) (ts : List Token) (to line : ℕ) (name : List ℕ) → to ≤ length ts →
    ((i : ℕ) → i < to → is_name line name (get_or ts i no_token) ≡ false) →
    first_spot text line (filter (is_name line name) (take to ts)) ≡ whole_line line
none_front text [] zero line name within none = refl
none_front text [] (suc to) line name within none = absurd (omega (arith, within))
none_front text (t ∷ ts) zero line name within none = refl
none_front text (t ∷ ts) (suc to) line name within none =
    ap (λ b. first_spot text line (cond b (t ∷ filter (is_name line name) (take to ts)) (filter (is_name line name) (take to ts))))
    (none zero (omega arith))
    ∙ none_front text ts to line name (omega (arith, within)) (λ i b. none (suc i) (omega (arith, b)))

nothing : (from n : ℕ) (ts : List Token) → length ts ≤ from → take n (drop from ts) ≡ []
nothing from n ts h = grind (arith, common_steps)

-- there is none
pub named_nowhere : (text : List ℕ) (ts : List Token) (from to line : ℕ) (name : List ℕ) → to ≤ length ts →
    ((i : ℕ) → from ≤ i → i < to → is_name line name (get_or ts i no_token) ≡ false) →
    first_spot text line (filter (is_name line name) (take (to - from) (drop from ts))) ≡ whole_line line
named_nowhere text ts zero to line name within none =
    ap (λ n. first_spot text line (filter (is_name line name) (take n ts))) (whole to)
    ∙ none_front text ts to line name within (λ i b. none i (omega arith) b)
named_nowhere text [] (suc from) to line name within none =
    ap (λ us. first_spot text line (filter (is_name line name) us)) (nothing (suc from) (to - suc from) [] (omega arith))
named_nowhere text (t ∷ ts) (suc from) zero line name within none =
    ap (λ n. first_spot text line (filter (is_name line name) (take n (drop from ts)))) (let e : zero - suc from ≡ zero = omega arith in e)
named_nowhere text (t ∷ ts) (suc from) (suc to) line name within none =
    ap (λ n. first_spot text line (filter (is_name line name) (take n (drop from ts)))) (minus to from)
    ∙ named_nowhere text ts from to line name (omega (arith, within)) (λ i a b. none (suc i) (omega (arith, a)) (omega (arith, b)))
