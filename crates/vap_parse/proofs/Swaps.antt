-- A token in the place of one that is alike to the grammar.
--
-- A form that spells something by marked tokens spells something by tokens that are alike to them, with the same marks: it never
-- looks at the word of a name, or at the value of a number but that of a frequency. So rule by rule.
use Rattle.std.proofs.Common.{◌≡◌, ℕ, suc, zero, ◌+◌, List, [], ◌∷◌, ◌++◌, Bool, true, false, Option, None, Some, refl, sym, ap, subst, ◌∙◌}
use Rattle.std.specs.Prelude.{if◌then◌else◌, ℤ}
use Rattle.vap_lex.specs.declared.token.Token.{Token}
use Rattle.vap_ast.specs.Syntax.{Expr, Item, Constant, Array, Routine, Program}
use Rattle.vap_parse.specs.declared.kind.Kind.{Kind}
use Rattle.vap_parse.specs.declared.kind.Kind.TheVariants as k
use Rattle.vap_parse.specs.declared.kind.Rank.{Rank}
use Rattle.vap_parse.specs.declared.kind.Rank.TheVariants as rank
use Rattle.vap_parse.specs.Kinds.{kind_of, same_kind, operator_of, reading_of, command_of, timer_of}
use Rattle.vap_parse.specs.Input.{Mark, fine, wrong, name_in, number_in, aspect_in, name_at, where_kind, with_line, line_of, no_limit, as_many, limit, below, frequency_mark, is_one, max_operators, max_levels, max_ifs}
use Rattle.vap_parse.specs.Forms.{Marked, fines, Form, Picks, picks, Gives, gives, Then, then_, Either, this, that, Many, none, round, Anew, counted, Balanced, balanced, Inside, last, shut, opened, other}
use Rattle.vap_parse.specs.Same.{AsWell, Same}
use Rattle.vap_parse.specs.Grammar as g

-- ---- tokens that are alike

-- token by token alike, with the same marks
abbrev pub Swaps : List Marked → List Marked → Type 0
Swaps [] [] = Unit {0}
Swaps [] (u ∷ us) = ⊥
Swaps (t ∷ ts) [] = ⊥
Swaps (t ∷ ts) (u ∷ us) = Same t.0 u.0 × (t.1 ≡ u.1) × Swaps ts us

-- what one form spells, the other spells by tokens that are alike
abbrev pub Sim : {A : Type 0} → Form A → Form A → Type 0
Sim {A} P Q = (o n : ℕ) (ms : List Marked) (x : A) → P o ms x n → (us : List Marked) → Swaps ms us → (y : A) × Q o us y n

-- two parts
record Parted (a b us : List Marked) : Type 0 where
  front : List Marked
  rest : List Marked
  parts : us ≡ front ++ rest
  front_swaps : Swaps a front
  rest_swaps : Swaps b rest

parted : (a b us : List Marked) → Swaps (a ++ b) us → Parted a b us
parted [] b us s = record { front = []; rest = us; parts = refl; front_swaps = tt; rest_swaps = s }
parted (t ∷ a) b [] s = absurd s
parted (t ∷ a) b (u ∷ us) s =
    let p = parted a b us s.2 in record {
      front = u ∷ p.front;
      rest = p.rest;
      parts = ap (λ (ms : List Marked). u ∷ ms) p.parts;
      front_swaps = (s.0, s.1, p.front_swaps);
      rest_swaps = p.rest_swaps;
    }

-- ---- forms

then_sim : {A B : Type 0} {P P' : Form A} {Q Q' : A → Form B} → Sim P P' → ((x y : A) → Sim (Q x) (Q' y)) → Sim (Then P Q) (Then P' Q')
then_sim {P' = P'} {Q' = Q'} p q _ _ _ _ (then_ o m n a b x y first second) us s =
    let two = parted a b us s in
    let one = p o m a x first two.front two.front_swaps in
    let next_ = q x one.0 m n b y second two.rest two.rest_swaps in
    (next_.0, subst (λ (ms : List Marked). Then P' Q' o ms next_.0 n) (sym two.parts) (then_ o m n two.front two.rest one.0 next_.0 one.1 next_.1))

either_sim : {A : Type 0} {P P' Q Q' : Form A} → Sim P P' → Sim Q Q' → Sim (Either P Q) (Either P' Q')
either_sim p q _ _ _ _ (this o n ms x is) us s = let r = p o n ms x is us s in (r.0, this o n us r.0 r.1)
either_sim p q _ _ _ _ (that o n ms x is) us s = let r = q o n ms x is us s in (r.0, that o n us r.0 r.1)

gives_sim : {A : Type 0} (x y : A) → Sim (Gives x) (Gives y)
gives_sim x y _ _ _ _ (gives o) [] s = (y, gives o)
gives_sim x y _ _ _ _ (gives o) (u ∷ us) s = absurd s

many_sim : {A : Type 0} {Q Q' : A → Form A} → ((x y : A) → Sim (Q x) (Q' y)) → (x y : A) → Sim (Many Q x) (Many Q' y)
many_sim {Q' = Q'} q _ y' _ _ _ _ (none x o) [] s = (y', none y' o)
many_sim q _ y' _ _ _ _ (none x o) (u ∷ us) s = absurd s
many_sim {Q' = Q'} q _ y' _ _ _ _ (round x y z o m n a b first more) us s =
    let two = parted a b us s in
    let one = q x y' o m a y first two.front two.front_swaps in
    let next_ = many_sim q y one.0 m n b z more two.rest two.rest_swaps in
    (next_.0, subst (λ (ms : List Marked). Many Q' y' o ms next_.0 n) (sym two.parts) (round y' one.0 next_.0 o m n two.front two.rest one.1 next_.1))

anew_sim : {A : Type 0} {P P' : Form A} → Sim P P' → Sim (Anew P) (Anew P')
anew_sim p _ _ _ _ (counted o n ms x is) us s = let r = p max_operators n ms x is us s in (r.0, counted o n us r.0 r.1)

inside_sim : (depth : ℕ) (ms : List Marked) → Inside depth ms → (us : List Marked) → Swaps ms us → Inside depth us
inside_sim _ _ (last t is) [] s = absurd s
inside_sim _ _ (last t is) ((u, m) ∷ []) s = subst (λ (m : Mark). Inside zero ((u, m) ∷ [])) s.1 (last u (sym s.0.kind ∙ is))
inside_sim _ _ (last t is) (u ∷ v ∷ us) s = absurd s.2
inside_sim _ _ (shut depth t ms is more) [] s = absurd s
inside_sim _ _ (shut depth t ms is more) ((u, m) ∷ us) s =
    subst (λ (m : Mark). Inside (suc depth) ((u, m) ∷ us)) s.1 (shut depth u us (sym s.0.kind ∙ is) (inside_sim depth ms more us s.2))
inside_sim _ _ (opened depth t ms is more) [] s = absurd s
inside_sim _ _ (opened depth t ms is more) ((u, m) ∷ us) s =
    subst (λ (m : Mark). Inside depth ((u, m) ∷ us)) s.1 (opened depth u us (sym s.0.kind ∙ is) (inside_sim (depth + 1) ms more us s.2))
inside_sim _ _ (other depth t ms isnt_open isnt_close more) [] s = absurd s
inside_sim _ _ (other depth t ms isnt_open isnt_close more) ((u, m) ∷ us) s =
    subst (λ (m : Mark). Inside depth ((u, m) ∷ us)) s.1
    (other depth u us (λ is. isnt_open (s.0.kind ∙ is)) (λ is. isnt_close (s.0.kind ∙ is)) (inside_sim depth ms more us s.2))

balanced_sim : Sim Balanced Balanced
balanced_sim _ _ _ _ (balanced o ms is) us s = (tt, balanced o us (inside_sim zero ms is us s))

-- ---- tokens

picks_sim : {A : Type 0} (pick : Token → Option A) (mark : ℕ → Token → Mark) (left : ℕ → ℕ) → ((t u : Token) → Same t u → AsWell (pick t) (pick u)) →
    ((o : ℕ) (t u : Token) → Same t u → mark o t ≡ mark o u) → Sim (Picks pick mark left) (Picks pick mark left)
picks_sim pick mark left as_well marks _ _ _ _ (picks o t x is) [] s = absurd s
picks_sim pick mark left as_well marks _ _ _ _ (picks o t x is) ((u, m) ∷ []) s =
    let y = as_well t u s.0 x is in
    (y.0, subst (λ (m : Mark). Picks pick mark left o ((u, m) ∷ []) y.0 (left o)) (sym (marks o t u s.0) ∙ s.1) (picks o u y.0 y.1))
picks_sim pick mark left as_well marks _ _ _ _ (picks o t x is) (u ∷ v ∷ us) s = absurd s.2

-- the same value of two tokens
by_kind : {A : Type 0} (f : Kind → Option A) (t u : Token) → Same t u → AsWell (f (kind_of t.kind)) (f (kind_of u.kind))
by_kind f t u s x is = (x, ap f (sym s.kind) ∙ is)

lined : {A : Type 0} (a b : Option A) (l m : ℕ) → AsWell a b → AsWell (with_line a l) (with_line b m)
lined None b l m as_well x is = absurd cc
lined {A = A} (Some a) b l m as_well x is = let y = as_well a refl in ((y.0, m), ap (λ (c : Option A). with_line c m) y.1)

chosen : (c d : Bool) (x y : ℕ) → c ≡ d → AsWell (if c then Some x else None) (if d then Some y else None)
chosen true true x y same z is = (y, refl)
chosen true false x y same z is = absurd cc
chosen false d x y same z is = absurd cc

expect_sim : (kind : Kind) → Sim (g.expect kind) (g.expect kind)
expect_sim kind = picks_sim (where_kind kind line_of) no_limit as_many
    (λ t u s. chosen (same_kind (kind_of t.kind) kind) (same_kind (kind_of u.kind) kind) t.line u.line (ap (λ (x : Kind). same_kind x kind) s.kind)) (λ o t u s. refl)

enter_sim : (levels : ℕ) (kind : Kind) → Sim (g.enter levels kind) (g.enter levels kind)
enter_sim levels kind = picks_sim (where_kind kind line_of) (λ n t. limit levels) as_many
    (λ t u s. chosen (same_kind (kind_of t.kind) kind) (same_kind (kind_of u.kind) kind) t.line u.line (ap (λ (x : Kind). same_kind x kind) s.kind)) (λ o t u s. refl)

name_sim : Sim g.name g.name
name_sim = picks_sim name_at no_limit as_many (λ t u s. lined (name_in t.kind) (name_in u.kind) t.line u.line s.name) (λ o t u s. refl)

number_sim : Sim g.number g.number
number_sim = picks_sim (λ t. number_in t.kind) no_limit as_many (λ t u s. s.number) (λ o t u s. refl)

operator_sim : (r : Rank) → Sim (g.operator r) (g.operator r)
operator_sim r = picks_sim (λ t. operator_of r (kind_of t.kind)) (λ n t. limit n) below (by_kind (operator_of r)) (λ o t u s. refl)

reading_sim : Sim g.reading g.reading
reading_sim = picks_sim (λ t. reading_of (kind_of t.kind)) no_limit as_many (by_kind reading_of) (λ o t u s. refl)

aspect_sim : Sim g.aspect g.aspect
aspect_sim = picks_sim (λ t. aspect_in t.kind) no_limit as_many (λ t u s. s.aspect) (λ o t u s. refl)

command_sim : Sim g.command g.command
command_sim = picks_sim (λ t. with_line (command_of (kind_of t.kind)) t.line) no_limit as_many
    (λ t u s. lined (command_of (kind_of t.kind)) (command_of (kind_of u.kind)) t.line u.line (by_kind command_of t u s)) (λ o t u s. refl)

timer_sim : Sim g.timer g.timer
timer_sim = picks_sim (λ t. with_line (timer_of (kind_of t.kind)) t.line) no_limit as_many
    (λ t u s. lined (timer_of (kind_of t.kind)) (timer_of (kind_of u.kind)) t.line u.line (by_kind timer_of t u s)) (λ o t u s. refl)

frequency_sim : Sim g.frequency g.frequency
frequency_sim = picks_sim (λ t. number_in t.kind) frequency_mark as_many (λ t u s. s.number)
    (λ o t u s. ap (λ (b : Bool). if b then fine else wrong) s.one)

-- ---- expressions

operation_sim : (r : Rank) {P P' : Form Expr} → Sim P P' → (x y : Expr) → Sim (g.operation r P x) (g.operation r P' y)
unfolding g.operation
operation_sim r p x y = then_sim (operator_sim r) (λ a b. then_sim p (λ c d. gives_sim _ _))

chain_sim : (r : Rank) {P P' : Form Expr} → Sim P P' → Sim (g.chain r P) (g.chain r P')
unfolding g.chain
chain_sim r p = then_sim p (λ x y. many_sim (λ a b. operation_sim r p a b) x y)

literal_sim : Sim g.literal g.literal
unfolding g.literal
literal_sim = then_sim number_sim (λ x y. gives_sim _ _)

module _ (levels : ℕ) (inner : Rank → Form Expr) (deeper : (r : Rank) → Sim (inner r) (inner r)) where
  index_sim : Sim (g.index levels inner) (g.index levels inner)
  unfolding g.index
  index_sim = then_sim (enter_sim levels k.OpenIndex) (λ a b. then_sim (deeper rank.Or) (λ c d. then_sim (expect_sim k.CloseIndex) (λ e f. gives_sim _ _)))

  brackets_sim : Sim (g.brackets levels inner) (g.brackets levels inner)
  unfolding g.brackets
  brackets_sim = then_sim (enter_sim levels k.Open) (λ a b. then_sim (deeper rank.Or) (λ c d. then_sim (expect_sim k.Close) (λ e f. gives_sim _ _)))

  next_argument_sim : (xs ys : List Expr) → Sim (g.next_argument levels inner xs) (g.next_argument levels inner ys)
  unfolding g.next_argument
  next_argument_sim xs ys = then_sim (expect_sim k.Comma) (λ a b. then_sim (deeper rank.Or) (λ c d. gives_sim _ _))

  some_arguments_sim : Sim (g.some_arguments levels inner) (g.some_arguments levels inner)
  unfolding g.some_arguments
  some_arguments_sim = then_sim (deeper rank.Or) (λ x y. many_sim (λ a b. next_argument_sim a b) _ _)

  arguments_sim : Sim (g.arguments levels inner) (g.arguments levels inner)
  unfolding g.arguments
  arguments_sim = then_sim (enter_sim levels k.Open) (λ a b. then_sim (either_sim some_arguments_sim (gives_sim _ _)) (λ c d. then_sim (expect_sim k.Close) (λ e f. gives_sim _ _)))

  a_reading_sim : Sim (g.a_reading levels inner) (g.a_reading levels inner)
  unfolding g.a_reading
  a_reading_sim = then_sim reading_sim (λ a b. then_sim arguments_sim (λ c d. gives_sim _ _))

  current_state_sim : Sim (g.current_state levels inner) (g.current_state levels inner)
  unfolding g.current_state
  current_state_sim = then_sim (expect_sim k.CurrentState) (λ a b. then_sim (enter_sim levels k.Open) (λ c d. then_sim (deeper rank.Or) (λ e f. then_sim (expect_sim k.Comma) (λ h i. then_sim aspect_sim (λ j l. then_sim (expect_sim k.Close) (λ m n. gives_sim _ _))))))

  empty_brackets_sim : Sim (g.empty_brackets levels inner) (g.empty_brackets levels inner)
  unfolding g.empty_brackets
  empty_brackets_sim = then_sim (enter_sim levels k.Open) (λ a b. expect_sim k.Close)

  any_interstage_sim : Sim (g.any_interstage levels inner) (g.any_interstage levels inner)
  unfolding g.any_interstage
  any_interstage_sim = then_sim (expect_sim k.AnyInterstageActive) (λ a b. then_sim (either_sim empty_brackets_sim (gives_sim _ _)) (λ c d. gives_sim _ _))

  cell_of_sim : (w v : List ℕ) → Sim (g.cell_of levels inner w) (g.cell_of levels inner v)
  unfolding g.cell_of
  cell_of_sim w v = then_sim index_sim (λ a b. gives_sim _ _)

  name_or_cell_sim : Sim (g.name_or_cell levels inner) (g.name_or_cell levels inner)
  unfolding g.name_or_cell
  name_or_cell_sim = then_sim name_sim (λ w v. either_sim (cell_of_sim w.0 v.0) (gives_sim _ _))

  atom_sim : Sim (g.atom levels inner) (g.atom levels inner)
  unfolding g.atom
  atom_sim = either_sim literal_sim (either_sim name_or_cell_sim (either_sim brackets_sim (either_sim current_state_sim (either_sim any_interstage_sim a_reading_sim))))

  negative_sim : Sim (g.negative levels inner) (g.negative levels inner)
  unfolding g.negative
  negative_sim = then_sim (enter_sim levels k.Minus) (λ a b. then_sim (deeper rank.Sign) (λ c d. gives_sim _ _))

  sign_sim : Sim (g.sign levels inner) (g.sign levels inner)
  unfolding g.sign
  sign_sim = either_sim negative_sim atom_sim

  product_sim : Sim (g.product levels inner) (g.product levels inner)
  unfolding g.product
  product_sim = chain_sim rank.Product sign_sim

  sum_sim : Sim (g.sum levels inner) (g.sum levels inner)
  unfolding g.sum
  sum_sim = chain_sim rank.Sum product_sim

  comparison_sim : Sim (g.comparison levels inner) (g.comparison levels inner)
  unfolding g.comparison
  comparison_sim = then_sim sum_sim (λ x y. either_sim (operation_sim rank.Compare sum_sim x y) (gives_sim _ _))

  inverse_sim : Sim (g.inverse levels inner) (g.inverse levels inner)
  unfolding g.inverse
  inverse_sim = then_sim (enter_sim levels k.Not) (λ a b. then_sim (deeper rank.Not) (λ c d. gives_sim _ _))

  negation_sim : Sim (g.negation levels inner) (g.negation levels inner)
  unfolding g.negation
  negation_sim = either_sim inverse_sim comparison_sim

  conjunction_sim : Sim (g.conjunction levels inner) (g.conjunction levels inner)
  unfolding g.conjunction
  conjunction_sim = chain_sim rank.And negation_sim

  disjunction_sim : Sim (g.disjunction levels inner) (g.disjunction levels inner)
  unfolding g.disjunction
  disjunction_sim = chain_sim rank.Or conjunction_sim

  of_rank_sim : (r : Rank) → Sim (g.of_rank levels inner r) (g.of_rank levels inner r)
  of_rank_sim rank.Or = disjunction_sim
  of_rank_sim rank.And = conjunction_sim
  of_rank_sim rank.Not = negation_sim
  of_rank_sim rank.Compare = comparison_sim
  of_rank_sim rank.Sum = sum_sim
  of_rank_sim rank.Product = product_sim
  of_rank_sim rank.Sign = sign_sim
  of_rank_sim rank.Atom = atom_sim

inner_sim : (l : ℕ) (r : Rank) → Sim (g.inner l r) (g.inner l r)
inner_sim zero r = literal_sim
inner_sim (suc l) r = of_rank_sim l (g.inner l) (inner_sim l) r

expr_sim : (l : ℕ) (r : Rank) → Sim (g.expr l r) (g.expr l r)
expr_sim l = of_rank_sim l (g.inner l) (inner_sim l)

-- ---- statements

expression_sim : Sim g.expression g.expression
unfolding g.expression
expression_sim = anew_sim (expr_sim max_levels rank.Or)

one_semi_sim : (u v : Unit {0}) → Sim (g.one_semi u) (g.one_semi v)
unfolding g.one_semi
one_semi_sim u v = then_sim (expect_sim k.Semi) (λ a b. gives_sim _ _)

semis_sim : Sim g.semis g.semis
unfolding g.semis
semis_sim = many_sim (λ a b. one_semi_sim a b) tt tt

labelled_sim : (w v : List ℕ × ℕ) → Sim (g.labelled w) (g.labelled v)
unfolding g.labelled
labelled_sim w v = then_sim (expect_sim k.Colon) (λ a b. gives_sim _ _)

assigned_sim : (w v : List ℕ × ℕ) → Sim (g.assigned w) (g.assigned v)
unfolding g.assigned
assigned_sim w v = then_sim (expect_sim k.Assign) (λ a b. then_sim expression_sim (λ c d. gives_sim _ _))

cell_assigned_sim : (w v : List ℕ × ℕ) → Sim (g.cell_assigned w) (g.cell_assigned v)
unfolding g.cell_assigned
cell_assigned_sim w v = then_sim (index_sim max_levels (g.inner max_levels) (inner_sim max_levels)) (λ a b. then_sim (expect_sim k.Assign) (λ c d. then_sim (expr_sim max_levels rank.Or) (λ e f. gives_sim _ _)))

named_item_sim : Sim g.named_item g.named_item
unfolding g.named_item
named_item_sim = then_sim name_sim (λ w v. either_sim (labelled_sim w v) (either_sim (assigned_sim w v) (anew_sim (cell_assigned_sim w v))))

to_label_sim : Sim g.to_label g.to_label
unfolding g.to_label
to_label_sim = then_sim name_sim (λ w v. gives_sim _ _)

to_end_sim : Sim g.to_end g.to_end
unfolding g.to_end
to_end_sim = then_sim (expect_sim k.ProgEnde) (λ a b. gives_sim _ _)

goto_sim : Sim g.goto g.goto
unfolding g.goto
goto_sim = then_sim (expect_sim k.Goto) (λ a b. then_sim (either_sim to_end_sim to_label_sim) (λ c d. gives_sim _ _))

gosub_sim : Sim g.gosub g.gosub
unfolding g.gosub
gosub_sim = then_sim (expect_sim k.Gosub) (λ a b. then_sim name_sim (λ c d. gives_sim _ _))

trace_sim : Sim g.trace g.trace
unfolding g.trace
trace_sim = then_sim (expect_sim k.Trace) (λ a b. then_sim (expect_sim k.Open) (λ c d. then_sim balanced_sim (λ e f. gives_sim _ _)))

timer_statement_sim : Sim g.timer_statement g.timer_statement
unfolding g.timer_statement
timer_statement_sim = then_sim timer_sim (λ a b. then_sim (expect_sim k.Open) (λ c d. then_sim name_sim (λ e f. then_sim (expect_sim k.Close) (λ h i. gives_sim _ _))))

command_statement_sim : Sim g.command_statement g.command_statement
unfolding g.command_statement
command_statement_sim = then_sim command_sim (λ a b. then_sim (anew_sim (arguments_sim max_levels (g.inner max_levels) (inner_sim max_levels))) (λ c d. gives_sim _ _))

simple_statement_sim : Sim g.simple_statement g.simple_statement
unfolding g.simple_statement
simple_statement_sim = either_sim goto_sim (either_sim gosub_sim (either_sim trace_sim (either_sim timer_statement_sim command_statement_sim)))

module _ (ifs : ℕ) (deeper : Form (List Item)) (deep : Sim deeper deeper) where
  other_branch_sim : Sim (g.other_branch ifs deeper) (g.other_branch ifs deeper)
  unfolding g.other_branch
  other_branch_sim = then_sim (expect_sim k.Else) (λ a b. deep)

  else_branch_sim : Sim (g.else_branch ifs deeper) (g.else_branch ifs deeper)
  unfolding g.else_branch
  else_branch_sim = either_sim other_branch_sim (gives_sim _ _)

  branch_sim : Sim (g.branch ifs deeper) (g.branch ifs deeper)
  unfolding g.branch
  branch_sim = then_sim (enter_sim ifs k.If) (λ a b. then_sim expression_sim (λ c d. then_sim (expect_sim k.Then) (λ e f. then_sim deep (λ h i. then_sim else_branch_sim (λ j l. then_sim (expect_sim k.End) (λ m n. gives_sim _ _))))))

  item_sim : Sim (g.item ifs deeper) (g.item ifs deeper)
  unfolding g.item
  item_sim = either_sim named_item_sim (either_sim branch_sim simple_statement_sim)

  one_more_sim : (xs ys : List Item) → Sim (g.one_more ifs deeper xs) (g.one_more ifs deeper ys)
  unfolding g.one_more
  one_more_sim xs ys = then_sim item_sim (λ a b. then_sim semis_sim (λ c d. gives_sim _ _))

  items_sim : Sim (g.items ifs deeper) (g.items ifs deeper)
  unfolding g.items
  items_sim = many_sim (λ a b. one_more_sim a b) [] []

  block_sim : Sim (g.block ifs deeper) (g.block ifs deeper)
  unfolding g.block
  block_sim = then_sim semis_sim (λ a b. items_sim)

inside_block_sim : (n : ℕ) → Sim (g.inside n) (g.inside n)
inside_block_sim zero = then_sim semis_sim (λ a b. gives_sim _ _)
inside_block_sim (suc n) = block_sim n (g.inside n) (inside_block_sim n)

body_sim : (n : ℕ) → Sim (g.body n) (g.body n)
body_sim n = block_sim n (g.inside n) (inside_block_sim n)

-- ---- declarations and programs

below_zero_sim : Sim g.below_zero g.below_zero
unfolding g.below_zero
below_zero_sim = then_sim (expect_sim k.Minus) (λ a b. then_sim number_sim (λ c d. gives_sim _ _))

value_sim : Sim g.value g.value
unfolding g.value
value_sim = either_sim below_zero_sim number_sim

constant_sim : Sim g.constant g.constant
unfolding g.constant
constant_sim = then_sim name_sim (λ a b. then_sim (expect_sim k.Eq) (λ c d. then_sim value_sim (λ e f. gives_sim _ _)))

next_constant_sim : (cs ds : List Constant) → Sim (g.next_constant cs) (g.next_constant ds)
unfolding g.next_constant
next_constant_sim cs ds = then_sim (expect_sim k.Comma) (λ a b. then_sim constant_sim (λ c d. gives_sim _ _))

constants_sim : (cs ds : List Constant) → Sim (g.constants cs) (g.constants ds)
unfolding g.constants
constants_sim cs ds = then_sim (expect_sim k.Const) (λ a b. then_sim constant_sim (λ c d. many_sim (λ e f. next_constant_sim e f) _ _))

next_value_sim : (vs ws : List ℤ) → Sim (g.next_value vs) (g.next_value ws)
unfolding g.next_value
next_value_sim vs ws = then_sim (expect_sim k.Comma) (λ a b. then_sim value_sim (λ c d. gives_sim _ _))

values_sim : Sim g.values g.values
unfolding g.values
values_sim = then_sim (expect_sim k.OpenIndex) (λ a b. then_sim value_sim (λ c d. then_sim (many_sim (λ e f. next_value_sim e f) _ _) (λ h i. then_sim (expect_sim k.CloseIndex) (λ j l. gives_sim _ _))))

array_sim : Sim g.array g.array
unfolding g.array
array_sim = then_sim name_sim (λ a b. then_sim (expect_sim k.OpenIndex) (λ c d. then_sim number_sim (λ e f. then_sim (expect_sim k.CloseIndex) (λ h i. then_sim (expect_sim k.Eq) (λ j l. then_sim values_sim (λ m n. gives_sim _ _))))))

next_array_sim : (xs bs : List Array) → Sim (g.next_array xs) (g.next_array bs)
unfolding g.next_array
next_array_sim xs bs = then_sim (expect_sim k.Comma) (λ a b. then_sim array_sim (λ c d. gives_sim _ _))

arrays_sim : (xs bs : List Array) → Sim (g.arrays xs) (g.arrays bs)
unfolding g.arrays
arrays_sim xs bs = then_sim (expect_sim k.Array) (λ a b. then_sim array_sim (λ c d. many_sim (λ e f. next_array_sim e f) _ _))

frequencies_sim : Sim g.frequencies g.frequencies
unfolding g.frequencies
frequencies_sim = then_sim (expect_sim k.VapFrequency) (λ a b. then_sim frequency_sim (λ c d. gives_sim _ _))

declared_frequency_sim : (d e : g.Declared) → Sim (g.declared_frequency d) (g.declared_frequency e)
unfolding g.declared_frequency
declared_frequency_sim d e = then_sim frequencies_sim (λ a b. gives_sim _ _)

declared_constants_sim : (d e : g.Declared) → Sim (g.declared_constants d) (g.declared_constants e)
unfolding g.declared_constants
declared_constants_sim d e = then_sim (constants_sim d.0 e.0) (λ a b. gives_sim _ _)

declared_arrays_sim : (d e : g.Declared) → Sim (g.declared_arrays d) (g.declared_arrays e)
unfolding g.declared_arrays
declared_arrays_sim d e = then_sim (arrays_sim d.1 e.1) (λ a b. gives_sim _ _)

one_declaration_sim : (d e : g.Declared) → Sim (g.one_declaration d) (g.one_declaration e)
unfolding g.one_declaration
one_declaration_sim d e = either_sim (declared_frequency_sim d e) (either_sim (declared_constants_sim d e) (declared_arrays_sim d e))

declaration_sim : (d e : g.Declared) → Sim (g.declaration d) (g.declaration e)
unfolding g.declaration
declaration_sim d e = then_sim (one_declaration_sim d e) (λ a b. then_sim semis_sim (λ c f. gives_sim _ _))

ending_sim : Sim g.ending g.ending
unfolding g.ending
ending_sim = then_sim (expect_sim k.ProgEnde) (λ a b. then_sim (expect_sim k.Colon) (λ c d. then_sim (expect_sim k.Dot) (λ e f. semis_sim)))

sub_sim : Sim g.sub g.sub
unfolding g.sub
sub_sim = then_sim (expect_sim k.Subroutine) (λ a b. then_sim name_sim (λ c d. then_sim (body_sim max_ifs) (λ e f. then_sim ending_sim (λ h i. gives_sim _ _))))

next_sub_sim : (rs qs : List Routine) → Sim (g.next_sub rs) (g.next_sub qs)
unfolding g.next_sub
next_sub_sim rs qs = then_sim sub_sim (λ a b. gives_sim _ _)

program_sim : Sim g.program g.program
unfolding g.program
program_sim = then_sim (expect_sim k.Program) (λ a b. then_sim name_sim (λ c d. then_sim semis_sim (λ e f. then_sim (many_sim (λ h i. declaration_sim h i) _ _) (λ j l. then_sim (many_sim (λ m n. next_sub_sim m n) _ _) (λ p q. then_sim (items_sim max_ifs (g.inside max_ifs) (inside_block_sim max_ifs)) (λ r s. then_sim ending_sim (λ t u. gives_sim _ _)))))))

-- ---- texts

-- tokens are alike to themselves
itself : (t : Token) → Same t t
itself t = record { kind = refl; name = λ x is. (x, is); number = λ x is. (x, is); one = refl; aspect = λ x is. (x, is) }

swaps_itself : (ms : List Marked) → Swaps ms ms
swaps_itself [] = tt
swaps_itself (m ∷ ms) = (itself m.0, refl, swaps_itself ms)

one_swapped : (before : List Marked) (t u : Token) (more : List Marked) → Same t u →
    Swaps ((before ++ (t, fine) ∷ []) ++ more) ((before ++ (u, fine) ∷ []) ++ more)
one_swapped [] t u more same = (same, refl, swaps_itself more)
one_swapped (m ∷ before) t u more same = (itself m.0, refl, one_swapped before t u more same)

-- Where a token can stand behind others, one that is alike can.
pub alike_begins : (before : List Marked) (t u : Token) → Same t u → g.Begins (before ++ (t, fine) ∷ []) → g.Begins (before ++ (u, fine) ∷ [])
alike_begins before t u same begins =
    let r = program_sim max_operators begins.2.0 ((before ++ (t, fine) ∷ []) ++ begins.0) begins.1 begins.2.1 ((before ++ (u, fine) ∷ []) ++ begins.0)
    (one_swapped before t u begins.0 same) in
    (begins.0, r.0, (begins.2.0, r.1))

marked_last : (before : List Token) (t : Token) → fines (before ++ t ∷ []) ≡ fines before ++ (t, fine) ∷ []
marked_last [] t = refl
marked_last (u ∷ before) t = ap (λ (ms : List Marked). (u, fine) ∷ ms) (marked_last before t)

pub swapped_begins : (before : List Token) (t u : Token) → Same t u → g.Begins (fines (before ++ t ∷ [])) → g.Begins (fines (before ++ u ∷ []))
swapped_begins before t u same begins =
    subst g.Begins (sym (marked_last before u)) (alike_begins (fines before) t u same (subst g.Begins (marked_last before t) begins))
