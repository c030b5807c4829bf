-- What a parser leaves, and one round of each loop.
use Rattle.std.proofs.Common.{◌≡◌, ℕ, zero, suc, ◌-◌, ◌<◌, ◌≤◌, length, List, [], ◌∷◌, Option, Some, None, Ok, Bool, false, refl, subst, arith}
use Rattle.std.specs.Prelude.{ℤ, if◌then◌else◌}
use Rattle.vap_lex.specs.declared.token.Token.{Token}
use Rattle.vap_ast.specs.Syntax.{Expr, Item, Constant, Array, Routine}
use Rattle.vap_parse.specs.declared.kind.Kind.{Kind}
use Rattle.vap_parse.specs.declared.kind.Kind.TheVariants as k
use Rattle.vap_parse.specs.declared.kind.Rank.{Rank}
use Rattle.vap_parse.specs.declared.kind.Rank.TheVariants as rank
use Rattle.vap_parse.specs.Input.{Mark, fine, deep, wrong, Input, Outcome, Parser, and_then, kind, by_mark, picked, token_at, token, many}
use Rattle.vap_parse.specs.Forms.{Form}
use Rattle.vap_parse.specs.Kinds.{begins, declares}
use Rattle.vap_parse.specs.Descent.{is, is_operator, IsChain, operation, expr, inner, next_argument, one_semi, item, one_more, inside, body, next_constant, next_array, next_value, Declared, declaration, next_sub}
use Rattle.vap_parse.specs.Grammar as g
use Rattle.vap_parse.proofs.Meets.{Within}
use Rattle.vap_parse.proofs.Law.{Law, never}
use Rattle.vap_parse.proofs.Rounds.{Shorter, shorter, many_once}
use Rattle.vap_parse.proofs.TextLaws.{one_semi_law, one_more_law, item_law, inside_law, next_constant_law, next_array_law, next_value_law, declaration_law, next_sub_law}
use Rattle.vap_parse.proofs.ExprLaws.{product_operation_law, sum_operation_law, conjunction_operation_law, disjunction_operation_law, next_argument_law, inner_law}

-- a token is taken
mark_takes : {A : Type 0} (m : Mark) (a : A) (t : Token) (s : List Token) (n : ℕ) → Shorter (length (t ∷ s)) (by_mark m a t s n)
mark_takes fine a t s n = omega arith
mark_takes deep a t s n = omega arith
mark_takes wrong a t s n = omega arith

picked_takes : {A : Type 0} (c : Option A) (m : Mark) (t : Token) (s : List Token) (n : ℕ) → Shorter (length (t ∷ s)) (picked c m t s n)
picked_takes None m t s n = omega arith
picked_takes (Some a) m t s n = mark_takes m a t s n

token_takes_at : {A : Type 0} (pick : Token → Option A) (mark : ℕ → Token → Mark) (left : ℕ → ℕ) (ts : List Token) (n : ℕ) →
    Shorter (length ts) (token_at pick mark left ts n)
token_takes_at pick mark left [] n = omega arith
token_takes_at pick mark left (t ∷ s) n = picked_takes (pick t) (mark n t) t s (left n)

pub token_takes : {A : Type 0} (pick : Token → Option A) (mark : ℕ → Token → Mark) (left : ℕ → ℕ) (i j : Input) (x : A) →
    token pick mark left i ≡ Ok (x, j) → length j.rest < length i.rest
unfolding token
token_takes {A = A} pick mark left i j x e = subst (λ (o : Outcome A). Shorter (length i.rest) o) e (token_takes_at pick mark left i.rest i.operators)

pub takes : {A : Type 0} {p : Parser A} {T : Form A} {first goes : Kind → Bool} (law : Law p T first goes false) (i j : Input) (x : A) →
    p i ≡ Ok (x, j) → length j.rest < length i.rest
takes {A = A} law i j x e = subst (λ (o : Outcome A). Shorter (length i.rest) o) e (shorter law i)

pub keeps : {A : Type 0} {p : Parser A} {T : Form A} {first goes : Kind → Bool} {null : Bool} (law : Law p T first goes null) (i j : Input) (x : A) →
    p i ≡ Ok (x, j) → length j.rest ≤ length i.rest
keeps {A = A} law i j x e = subst (λ (o : Outcome A). Within (length i.rest) o) e (never law i)

pub inner_is : (l : ℕ) → 0 < l → inner l ≡ expr (l - 1)
inner_is zero some = absurd (omega arith)
inner_is (suc l) some = let e : suc l - 1 ≡ l = omega arith in rw e refl

abbrev OneRound : {A : Type 0} → (Kind → Bool) → (A → Parser A) → A → Input → Type 0
OneRound test round x i = many test round x i ≡ (if test (kind i) then and_then (round x i) (many test round) else Ok (x, i))

pub chain_once : (l : ℕ) (r o : Rank) → IsChain r o → (x : Expr) (i : Input) → OneRound (is_operator r) (operation r (expr l o)) x i
chain_once l rank.Or rank.And c x i = many_once (is_operator rank.Or) (disjunction_operation_law l (inner l) (g.inner l) (inner_law l)) x i
chain_once l rank.And rank.Not c x i = many_once (is_operator rank.And) (conjunction_operation_law l (inner l) (g.inner l) (inner_law l)) x i
chain_once l rank.Sum rank.Product c x i = many_once (is_operator rank.Sum) (sum_operation_law l (inner l) (g.inner l) (inner_law l)) x i
chain_once l rank.Product rank.Sign c x i = many_once (is_operator rank.Product) (product_operation_law l (inner l) (g.inner l) (inner_law l)) x i
chain_once l _ _ c x i = absurd c

pub arguments_once : (l : ℕ) (xs : List Expr) (i : Input) → OneRound (is k.Comma) (next_argument l (inner l)) xs i
arguments_once l xs i = many_once (is k.Comma) (next_argument_law l (inner l) (g.inner l) (inner_law l)) xs i

pub semis_once : (u : Unit {0}) (i : Input) → OneRound (is k.Semi) one_semi u i
semis_once u i = many_once (is k.Semi) one_semi_law u i

pub items_once : (n : ℕ) (xs : List Item) (i : Input) → OneRound begins (one_more n (inside n)) xs i
items_once n xs i = many_once begins (one_more_law n (inside n) (g.inside n) (inside_law n)) xs i

pub item_takes : (n : ℕ) (i j : Input) (x : Item) → item n (inside n) i ≡ Ok (x, j) → length j.rest < length i.rest
item_takes n i j x e = takes (item_law n (inside n) (g.inside n) (inside_law n)) i j x e

pub inside_is : (n : ℕ) → 0 < n → inside n ≡ body (n - 1)
inside_is zero some = absurd (omega arith)
inside_is (suc n) some = let e : suc n - 1 ≡ n = omega arith in rw e refl

pub constants_once : (cs : List Constant) (i : Input) → OneRound (is k.Comma) next_constant cs i
constants_once cs i = many_once (is k.Comma) next_constant_law cs i

pub arrays_once : (xs : List Array) (i : Input) → OneRound (is k.Comma) next_array xs i
arrays_once xs i = many_once (is k.Comma) next_array_law xs i

pub values_once : (vs : List ℤ) (i : Input) → OneRound (is k.Comma) next_value vs i
values_once vs i = many_once (is k.Comma) next_value_law vs i

pub declarations_once : (d : Declared) (i : Input) → OneRound declares declaration d i
declarations_once d i = many_once declares declaration_law d i

pub subs_once : (rs : List Routine) (i : Input) → OneRound (is k.Subroutine) next_sub rs i
subs_once rs i = many_once (is k.Subroutine) next_sub_law rs i
