-- Tokens up to the bracket that closes.
use Rattle.std.proofs.Common.{◌≡◌, ℕ, zero, suc, ◌+◌, length, List, [], ◌∷◌, ◌++◌, Ok, Err, Bool, true, false, refl, sym, ap, subst, ◌∙◌, arith}
use Rattle.vap_lex.specs.declared.token.Token.{Token}
use Rattle.vap_lex.specs.declared.token.TokenKind.TheVariants as t
use Rattle.vap_lex.specs.declared.token.Sign.TheVariants as sign
use Rattle.vap_parse.specs.declared.kind.Kind.{Kind}
use Rattle.vap_parse.specs.declared.kind.Kind.TheVariants as k
use Rattle.vap_parse.specs.Kinds.{kind_of}
use Rattle.vap_parse.specs.Input.{fine, input, Outcome, skip_by, skip, skipped}
use Rattle.vap_parse.specs.Forms.{Marked, tokens, Inside, last, shut, opened, other, Balanced, balanced}
use Rattle.vap_parse.proofs.After.{after}
use Rattle.vap_parse.proofs.Meets.{Meets, onward, refuses, prefixed, widen, Within, meets_within}
use Rattle.vap_parse.proofs.Alike.{Alike, cut, more, Agree, past, both_ok, Past, Local}
use Rattle.vap_parse.proofs.Law.{Law, Heads, no_kind}

abbrev pub any_kind : Kind → Bool
any_kind k = true

abbrev is_bracket : Kind → Bool
is_bracket k.Open = true
is_bracket k.Close = true
is_bracket _ = false

abbrev close_token : Token
close_token = record { place = 0; line = 1; kind = t.Sign sign.Close }

closes : (depth : ℕ) → (ms : List Marked) × Inside depth ms
closes zero = ((close_token, fine) ∷ [], last close_token refl)
closes (suc depth) = let e = closes depth in ((close_token, fine) ∷ e.0, shut depth close_token e.0 refl e.1)

no_bracket : (kd : Kind) (depth : ℕ) (deeper : ℕ → Outcome (Unit {0})) (done : Outcome (Unit {0})) → (kd ≡ k.Open → ⊥) → (kd ≡ k.Close → ⊥) →
    skip_by kd depth deeper done ≡ deeper depth
no_bracket k.Open depth deeper done a b = absurd (a refl)
no_bracket k.Close depth deeper done a b = absurd (b refl)
no_bracket _ depth deeper done a b = refl

skip_complete : (depth : ℕ) (ms : List Marked) → Inside depth ms → (rest : List Token) (n : ℕ) →
    skip (tokens ms ++ rest) depth n ≡ after ms (Ok (tt, input rest n)) rest
skip_complete _ _ (last t is) rest n = rw is refl
skip_complete _ _ (shut depth t ms is inside) rest n = rw is (skip_complete depth ms inside rest n)
skip_complete _ _ (opened depth t ms is inside) rest n = rw is (skip_complete (depth + 1) ms inside rest n)
skip_complete _ _ (other depth t ms a b inside) rest n =
    no_bracket (kind_of t.kind) depth (λ m. skip (tokens ms ++ rest) m n) (Ok (tt, input (tokens ms ++ rest) n)) a b ∙ skip_complete depth ms inside rest n

module _ (o : ℕ) where
  abbrev Closing : ℕ → List Marked → Unit {0} → ℕ → Type 0
  Closing depth ms x n = Inside depth ms × (n ≡ o)

  on : (depth deeper : ℕ) (t : Token) (s : List Token) (out : Outcome (Unit {0})) →
      ((ms : List Marked) → Inside deeper ms → Inside depth ((t, fine) ∷ ms)) → Meets (Closing deeper) [] s out → Meets (Closing depth) [] (t ∷ s) out
  on depth deeper t s out into m = onward (Closing depth) [] (t ∷ s) (t ∷ []) s out refl
      (prefixed (Closing deeper) (Closing depth) (t ∷ []) s out (λ ms x n r. (into ms r.0, r.1)) m)

  differs : (kd b : Kind) (t : Token) → kind_of t.kind ≡ kd → is_bracket kd ≡ false → is_bracket b ≡ true → kind_of t.kind ≡ b → ⊥
  differs kd b t is no_ yes_ same = let e : is_bracket kd ≡ is_bracket b = ap is_bracket (sym is ∙ same) in absurd cc

  another : (kd : Kind) (depth : ℕ) (t : Token) (s : List Token) → kind_of t.kind ≡ kd → is_bracket kd ≡ false →
      Meets (Closing depth) [] s (skip s depth o) → Meets (Closing depth) [] (t ∷ s) (skip s depth o)
  another kd depth t s is no_ deeper = on depth depth t s (skip s depth o)
      (λ ms r. other depth t ms (differs kd k.Open t is no_ refl) (differs kd k.Close t is no_ refl) r) deeper

  skip_meets_by : (kd : Kind) (depth : ℕ) (t : Token) (s : List Token) → kind_of t.kind ≡ kd →
      ((depth : ℕ) → Meets (Closing depth) [] s (skip s depth o)) → Meets (Closing depth) [] (t ∷ s) (skip_by kd depth (λ m. skip s m o) (Ok (tt, input s o)))
  skip_meets_by k.Open depth t s is deeper = on depth (depth + 1) t s (skip s (depth + 1) o) (λ ms r. opened depth t ms is r) (deeper (depth + 1))
  skip_meets_by k.Close zero t s is deeper = record { beginning = t ∷ []; parts = refl; spelled = (last t is, refl) }
  skip_meets_by k.Close (suc depth) t s is deeper = on (suc depth) depth t s (skip s depth o) (λ ms r. shut depth t ms is r) (deeper depth)
  skip_meets_by k.Nothing depth t s is deeper = another k.Nothing depth t s is refl (deeper depth)
  skip_meets_by kd depth t s is deeper = another kd depth t s is refl (deeper depth)

  skip_meets : (ts : List Token) (depth : ℕ) → Meets (Closing depth) [] ts (skip ts depth o)
  skip_meets [] depth = let e = closes depth in refuses (Closing depth) [] (e.0, tt, o, (e.1, refl))
  skip_meets (t ∷ s) depth = skip_meets_by (kind_of t.kind) depth t s refl (skip_meets s)

  skip_within : (ts : List Token) (depth : ℕ) → Within (length ts) (skip ts depth o)
  skip_within ts depth = meets_within (Closing depth) ts (skip ts depth o) (skip_meets ts depth)

  past_by : (out : Outcome (Unit {0})) (n : ℕ) → Within n out → Past (suc n) out
  past_by (Ok p) n within = omega arith
  past_by (Err e) n within = omega arith

  skip_past : (kd : Kind) (depth : ℕ) (z : List Token) → Past (suc (length z)) (skip_by kd depth (λ m. skip z m o) (Ok (tt, input z o)))
  skip_past k.Open depth z = past_by (skip z (depth + 1) o) (length z) (skip_within z (depth + 1))
  skip_past k.Close zero z = omega arith
  skip_past k.Close (suc depth) z = past_by (skip z depth o) (length z) (skip_within z depth)
  skip_past _ depth z = past_by (skip z depth o) (length z) (skip_within z depth)

  agree_by : {z z' : List Token} (kd : Kind) (depth : ℕ) (r r' : List Token) → Alike z z' r r' → ((m : ℕ) → Agree z z' (skip r m o) (skip r' m o)) →
      Agree z z' (skip_by kd depth (λ m. skip r m o) (Ok (tt, input r o))) (skip_by kd depth (λ m. skip r' m o) (Ok (tt, input r' o)))
  agree_by k.Open depth r r' a deeper = deeper (depth + 1)
  agree_by k.Close zero r r' a deeper = both_ok tt o r r' a
  agree_by k.Close (suc depth) r r' a deeper = deeper depth
  agree_by _ depth r r' a deeper = deeper depth

  skip_local : (z z' r r' : List Token) (depth : ℕ) → Alike z z' r r' → Agree z z' (skip r depth o) (skip r' depth o)
  skip_local z z' _ _ depth (cut t) = past (skip (t ∷ z) depth o) (skip (t ∷ z') depth o) (skip_past (kind_of t.kind) depth z)
  skip_local z z' _ _ depth (more t {r = r} {r' = r'} a) = agree_by (kind_of t.kind) depth r r' a (λ m. skip_local z z' r r' m a)

balanced_heads : (o n : ℕ) (ms : List Marked) (x : Unit {0}) → Balanced o ms x n → Heads any_kind false ms
balanced_heads _ _ _ _ (balanced o ms inside) = some_token zero ms inside where
  some_token : (depth : ℕ) (ms : List Marked) → Inside depth ms → Heads any_kind false ms
  some_token _ _ (last t is) = refl
  some_token _ _ (shut depth t ms is inside) = refl
  some_token _ _ (opened depth t ms is inside) = refl
  some_token _ _ (other depth t ms a b inside) = refl

balanced_complete : (o n : ℕ) (ms : List Marked) (x : Unit {0}) → Balanced o ms x n → (rest : List Token) →
    skipped (input (tokens ms ++ rest) o) ≡ after ms (Ok (x, input rest n)) rest
unfolding skipped
balanced_complete _ _ _ _ (balanced o ms inside) rest = skip_complete zero ms inside rest o

balanced_meets : (o : ℕ) (ts : List Token) → Meets (Balanced o) [] ts (skipped (input ts o))
unfolding skipped
balanced_meets o ts = widen (Closing o zero) (Balanced o) [] ts (skip ts zero o)
    (λ ms x n s. subst (λ (n : ℕ). Balanced o ms tt n) (sym s.1) (balanced o ms s.0)) (skip_meets o ts zero)

balanced_local : Local skipped
unfolding skipped
balanced_local z z' n r r' a = skip_local n z z' r r' zero a

pub balanced_law : Law skipped Balanced any_kind no_kind false
balanced_law = record {
  some = λ o. let e = closes zero in (e.0, tt, o, balanced o e.0 e.1);
  heads = balanced_heads;
  complete = λ o n ms x s rest ends. balanced_complete o n ms x s rest;
  meets = balanced_meets;
  local = balanced_local;
}
