-- A text has one list of tokens or one refused place.
use Rattle.std.proofs.Common.{◌≡◌, ℕ, ◌+◌, List, ◌++◌, take, drop, Result, Ok, Err, refl, sym, ap, subst, ◌∙◌, arith}
use Rattle.vap_lex.specs.declared.token.Token.{Token}
use Rattle.vap_lex.specs.declared.piece.Piece.{Piece}
use Rattle.vap_lex.specs.declared.piece.LexWhy.{LexWhy}
use Rattle.vap_lex.specs.Piece.{beginning}
use Rattle.vap_lex.specs.Tokens.{Scans, ends, refuses, step, End, done, stuck, line_at, kind_at, found, HasTokens, start_of}
use Rattle.vap_lex.specs.Refusal.{IsStuck}

ok_is : {A B : Type 0} (x y : A) (e : Result A B) → e ≡ Ok x → e ≡ Ok y → x ≡ y
ok_is x y e a b = cc

err_is : {A B : Type 0} (x y : B) (e : Result A B) → e ≡ Err x → e ≡ Err y → x ≡ y
err_is x y e a b = cc

apart : {A B C : Type 0} (x : A) (y : B) (e : Result A B) → e ≡ Ok x → e ≡ Err y → C
apart x y e a b = cc

pub same : (text : List ℕ) (p : ℕ) (ts us : List Token) (e f : End) → Scans text p ts e → Scans text p us f → (ts ≡ us) × (e ≡ f)
same text _ _ _ _ _ (ends p le) (ends q le') = (refl, refl)
same text _ _ _ _ _ (ends p le) (refuses q why lt is) = absurd (omega arith)
same text _ _ _ _ _ (ends p le) (step q n piece ts e lt is more) = absurd (omega arith)
same text _ _ _ _ _ (refuses p why lt is) (ends q le) = absurd (omega arith)
same text _ _ _ _ _ (refuses p why lt is) (refuses q why' lt' is') = (refl, ap (λ w. stuck p w) (err_is why why' (beginning (drop p text)) is is'))
same text _ _ _ _ _ (refuses p why lt is) (step q n piece ts e lt' is' more) = apart (piece, n) why (beginning (drop p text)) is' is
same text _ _ _ _ _ (step p n piece ts e lt is more) (ends q le) = absurd (omega arith)
same text _ _ _ _ _ (step p n piece ts e lt is more) (refuses q why lt' is') = apart (piece, n) why (beginning (drop p text)) is is'
same text _ _ _ _ _ (step p n piece ts e lt is more) (step q m other us f lt' is' more') =
    let one : (piece, n) ≡ (other, m) = ok_is (piece, n) (other, m) (beginning (drop p text)) is is' in
    let rest = same text (p + n) ts us e f more (subst (λ k. Scans text (p + k) us f) (sym (ap (λ r. r.1) one)) more') in
    (ap (λ (r : Piece × ℕ). found p (line_at text p) (kind_at r.0 (take r.1 (drop p text))) ++ ts) one ∙ ap (λ (vs : List Token). found p (line_at text p) (kind_at other (take m (drop p text))) ++ vs) rest.0, rest.1)

pub one_list : (text : List ℕ) (ts us : List Token) → HasTokens text ts → HasTokens text us → ts ≡ us
one_list text ts us a b = (same text (start_of text) ts us done done a b).0

pub one_place : (text : List ℕ) (p q : ℕ) (v w : LexWhy) → IsStuck text p v → IsStuck text q w → (p ≡ q) × (v ≡ w)
one_place text p q v w a b = let e = (same text (start_of text) a.0 b.0 (stuck p v) (stuck q w) a.1 b.1).1 in (cc, cc)

pub never_both : (text : List ℕ) (ts : List Token) (p : ℕ) (w : LexWhy) → HasTokens text ts → IsStuck text p w → ⊥
never_both text ts p w a b = let e = (same text (start_of text) ts b.0 done (stuck p w) a b.1).1 in cc
