-- The laws of the rules.
use Rattle.std.proofs.Common.{ℕ, zero, suc, List, [], ◌∷◌, Bool, true, false, refl}
use Rattle.std.specs.Prelude.{◌||◌}
use Rattle.vap_ast.specs.Syntax.{Expr}
use Rattle.vap_ast.specs.declared.tree.BinaryOp.TheVariants as op
use Rattle.vap_parse.specs.declared.kind.Kind.{Kind}
use Rattle.vap_parse.specs.declared.kind.Kind.TheVariants as k
use Rattle.vap_parse.specs.declared.kind.Rank.{Rank}
use Rattle.vap_parse.specs.declared.kind.Rank.TheVariants as rank
use Rattle.vap_parse.specs.Kinds.{same_kind}
use Rattle.vap_parse.specs.Input.{Parser}
use Rattle.vap_parse.specs.Forms.{Form}
use Rattle.vap_parse.specs.Descent.{is, is_operator, is_open}
use Rattle.vap_parse.specs.Descent as r
use Rattle.vap_parse.specs.Grammar as g
use Rattle.vap_parse.proofs.Law.{Law, no_kind, gives_law, then_law, either_law}
use Rattle.vap_parse.proofs.Rounds.{many_law}
use Rattle.vap_parse.proofs.Skips.{any_kind}
use Rattle.vap_parse.proofs.Tokens.{expect_law, enter_law, name_law, number_law, operator_law, reading_law, aspect_law, is_reading}

-- ---- what rules begin with, and what may go on with them

-- what an expression of a rank begins with
abbrev pub starts : Rank → Kind → Bool
starts r k.Number = true
starts r k.Name = true
starts r k.Open = true
starts r k.CurrentState = true
starts r k.AnyInterstageActive = true
starts rank.Atom k.Minus = false
starts r k.Minus = true
starts rank.Or k.Not = true
starts rank.And k.Not = true
starts rank.Not k.Not = true
starts r kd = is_reading kd

-- the operators of this rank and of those that bind tighter
abbrev pub operators_to : Rank → Kind → Bool
operators_to rank.Or kd = is_operator rank.Or kd
    || (is_operator rank.And kd || (is_operator rank.Compare kd || (is_operator rank.Sum kd || is_operator rank.Product kd)))
operators_to rank.And kd = is_operator rank.And kd || (is_operator rank.Compare kd || (is_operator rank.Sum kd || is_operator rank.Product kd))
operators_to rank.Not kd = is_operator rank.Compare kd || (is_operator rank.Sum kd || is_operator rank.Product kd)
operators_to rank.Compare kd = is_operator rank.Compare kd || (is_operator rank.Sum kd || is_operator rank.Product kd)
operators_to rank.Sum kd = is_operator rank.Sum kd || is_operator rank.Product kd
operators_to rank.Product kd = is_operator rank.Product kd
operators_to rank.Sign kd = false
operators_to rank.Atom kd = false

-- brackets, or an operator
abbrev pub goes : Rank → Kind → Bool
goes r k.Open = true
goes r k.OpenIndex = true
goes r kd = operators_to r kd

abbrev pub comma : Kind → Bool
comma = is k.Comma

-- ---- expressions

pub literal_law : (x : Rank) → Law r.literal g.literal (starts x) (goes x) false
unfolding r.literal g.literal same_kind
literal_law rank.Or = then_law (starts rank.Or) (goes rank.Or) number_law (λ n. gives_law _) refl
literal_law rank.And = then_law (starts rank.And) (goes rank.And) number_law (λ n. gives_law _) refl
literal_law rank.Not = then_law (starts rank.Not) (goes rank.Not) number_law (λ n. gives_law _) refl
literal_law rank.Compare = then_law (starts rank.Compare) (goes rank.Compare) number_law (λ n. gives_law _) refl
literal_law rank.Sum = then_law (starts rank.Sum) (goes rank.Sum) number_law (λ n. gives_law _) refl
literal_law rank.Product = then_law (starts rank.Product) (goes rank.Product) number_law (λ n. gives_law _) refl
literal_law rank.Sign = then_law (starts rank.Sign) (goes rank.Sign) number_law (λ n. gives_law _) refl
literal_law rank.Atom = then_law (starts rank.Atom) (goes rank.Atom) number_law (λ n. gives_law _) refl

literal_alone : Law r.literal g.literal (is k.Number) no_kind false
unfolding r.literal g.literal same_kind
literal_alone = then_law (is k.Number) no_kind number_law (λ n. gives_law _) refl

module _ (l : ℕ) (deep : Rank → Parser Expr) (Deep : Rank → Form Expr) (deeper : (x : Rank) → Law (deep x) (Deep x) (starts x) (goes x) false) where
  pub index_law : Law (r.index l deep) (g.index l Deep) (is k.OpenIndex) no_kind false
  unfolding r.index g.index same_kind
  index_law = then_law (is k.OpenIndex) no_kind (enter_law l k.OpenIndex refl)
      (λ _. then_law (starts rank.Or) no_kind (deeper rank.Or)
      (λ x. then_law (is k.CloseIndex) no_kind (expect_law k.CloseIndex refl) (λ _. gives_law x) refl) refl) refl

  pub brackets_law : Law (r.brackets l deep) (g.brackets l Deep) (is k.Open) no_kind false
  unfolding r.brackets g.brackets same_kind
  brackets_law = then_law (is k.Open) no_kind (enter_law l k.Open refl)
      (λ _. then_law (starts rank.Or) no_kind (deeper rank.Or) (λ x. then_law (is k.Close) no_kind (expect_law k.Close refl) (λ _. gives_law x) refl) refl) refl

  pub next_argument_law : (xs : List Expr) → Law (r.next_argument l deep xs) (g.next_argument l Deep xs) comma (goes rank.Or) false
  unfolding r.next_argument g.next_argument same_kind
  next_argument_law xs = then_law comma (goes rank.Or) (expect_law k.Comma refl)
      (λ _. then_law (starts rank.Or) (goes rank.Or) (deeper rank.Or) (λ x. gives_law _) refl) refl

  pub some_arguments_law : Law (r.some_arguments l deep) (g.some_arguments l Deep) (starts rank.Or) (λ kd. comma kd || goes rank.Or kd) false
  unfolding r.some_arguments g.some_arguments same_kind
  some_arguments_law = then_law (starts rank.Or) (λ kd. comma kd || goes rank.Or kd) (deeper rank.Or)
      (λ x. many_law comma comma (λ kd. comma kd || goes rank.Or kd) next_argument_law refl (x ∷ [])) refl

  pub arguments_law : Law (r.arguments l deep) (g.arguments l Deep) (is k.Open) no_kind false
  unfolding r.arguments g.arguments same_kind
  arguments_law = then_law (is k.Open) no_kind (enter_law l k.Open refl)
      (λ _. then_law any_kind no_kind (either_law is_open (starts rank.Or) is_open some_arguments_law (gives_law []) refl)
      (λ xs. then_law (is k.Close) no_kind (expect_law k.Close refl) (λ _. gives_law xs) refl) refl) refl

  pub a_reading_law : Law (r.a_reading l deep) (g.a_reading l Deep) is_reading no_kind false
  unfolding r.a_reading g.a_reading same_kind
  a_reading_law = then_law is_reading no_kind reading_law (λ x. then_law (is k.Open) no_kind arguments_law (λ xs. gives_law _) refl) refl

  pub current_state_law : Law (r.current_state l deep) (g.current_state l Deep) (is k.CurrentState) no_kind false
  unfolding r.current_state g.current_state same_kind
  current_state_law = then_law (is k.CurrentState) no_kind (expect_law k.CurrentState refl)
      (λ _. then_law (is k.Open) no_kind (enter_law l k.Open refl)
      (λ _. then_law (starts rank.Or) no_kind (deeper rank.Or)
      (λ x. then_law comma no_kind (expect_law k.Comma refl)
      (λ _. then_law (is k.Name) no_kind aspect_law (λ a. then_law (is k.Close) no_kind (expect_law k.Close refl) (λ _. gives_law _) refl) refl)
      refl) refl) refl) refl

  pub empty_brackets_law : Law (r.empty_brackets l deep) (g.empty_brackets l Deep) (is k.Open) no_kind false
  unfolding r.empty_brackets g.empty_brackets same_kind
  empty_brackets_law = then_law (is k.Open) no_kind (enter_law l k.Open refl) (λ _. expect_law k.Close refl) refl

  pub any_interstage_law : Law (r.any_interstage l deep) (g.any_interstage l Deep) (is k.AnyInterstageActive) (is k.Open) false
  unfolding r.any_interstage g.any_interstage same_kind
  any_interstage_law = then_law (is k.AnyInterstageActive) (is k.Open) (expect_law k.AnyInterstageActive refl)
      (λ _. then_law (is k.Open) (is k.Open) (either_law (is k.Open) (is k.Open) (is k.Open) empty_brackets_law (gives_law 0) refl)
      (λ _. gives_law _) refl) refl

  pub cell_of_law : (w : List ℕ) → Law (r.cell_of l deep w) (g.cell_of l Deep w) (is k.OpenIndex) no_kind false
  unfolding r.cell_of g.cell_of same_kind
  cell_of_law w = then_law (is k.OpenIndex) no_kind index_law (λ i. gives_law _) refl

  pub name_or_cell_law : Law (r.name_or_cell l deep) (g.name_or_cell l Deep) (is k.Name) (is k.OpenIndex) false
  unfolding r.name_or_cell g.name_or_cell same_kind
  name_or_cell_law = then_law (is k.Name) (is k.OpenIndex) name_law
      (λ w. either_law (is k.OpenIndex) (is k.OpenIndex) (is k.OpenIndex) (cell_of_law w.0) (gives_law _) refl) refl

  pub atom_law : Law (r.atom l deep) (g.atom l Deep) (starts rank.Atom) (goes rank.Atom) false
  unfolding r.atom g.atom same_kind
  atom_law = either_law (is k.Number) (starts rank.Atom) (goes rank.Atom) literal_alone
      (either_law (is k.Name) (λ kd. is k.Name kd || (is k.Open kd || (is k.CurrentState kd || (is k.AnyInterstageActive kd || is_reading kd))))
      (goes rank.Atom) name_or_cell_law
      (either_law (is k.Open) (λ kd. is k.Open kd || (is k.CurrentState kd || (is k.AnyInterstageActive kd || is_reading kd))) (goes rank.Atom) brackets_law
      (either_law (is k.CurrentState) (λ kd. is k.CurrentState kd || (is k.AnyInterstageActive kd || is_reading kd)) (goes rank.Atom) current_state_law
      (either_law (is k.AnyInterstageActive) (λ kd. is k.AnyInterstageActive kd || is_reading kd) (goes rank.Atom) any_interstage_law a_reading_law
      refl) refl) refl) refl) refl

  pub negative_law : Law (r.negative l deep) (g.negative l Deep) (is k.Minus) (goes rank.Sign) false
  unfolding r.negative g.negative same_kind
  negative_law = then_law (is k.Minus) (goes rank.Sign) (enter_law l k.Minus refl)
      (λ _. then_law (starts rank.Sign) (goes rank.Sign) (deeper rank.Sign) (λ x. gives_law _) refl) refl

  pub sign_law : Law (r.sign l deep) (g.sign l Deep) (starts rank.Sign) (goes rank.Sign) false
  unfolding r.sign g.sign same_kind
  sign_law = either_law (is k.Minus) (starts rank.Sign) (goes rank.Sign) negative_law atom_law refl

  pub product_operation_law : (left : Expr) →
      Law (r.operation rank.Product (r.sign l deep) left) (g.operation rank.Product (g.sign l Deep) left) (is_operator rank.Product) (goes rank.Sign) false
  unfolding r.operation g.operation same_kind
  product_operation_law left = then_law (is_operator rank.Product) (goes rank.Sign) (operator_law rank.Product k.Star op.Mul refl refl)
      (λ o. then_law (starts rank.Sign) (goes rank.Sign) sign_law (λ right. gives_law _) refl) refl

  pub product_law : Law (r.product l deep) (g.product l Deep) (starts rank.Product) (goes rank.Product) false
  unfolding r.product g.product r.chain g.chain same_kind
  product_law = then_law (starts rank.Product) (goes rank.Product) sign_law
      (λ x. many_law (is_operator rank.Product) (is_operator rank.Product) (goes rank.Product) product_operation_law refl x) refl

  pub sum_operation_law : (left : Expr) → Law (r.operation rank.Sum (r.product l deep) left) (g.operation rank.Sum (g.product l Deep) left)
      (is_operator rank.Sum) (goes rank.Product) false
  unfolding r.operation g.operation same_kind
  sum_operation_law left = then_law (is_operator rank.Sum) (goes rank.Product) (operator_law rank.Sum k.Plus op.Add refl refl)
      (λ o. then_law (starts rank.Product) (goes rank.Product) product_law (λ right. gives_law _) refl) refl

  pub sum_law : Law (r.sum l deep) (g.sum l Deep) (starts rank.Sum) (goes rank.Sum) false
  unfolding r.sum g.sum r.chain g.chain same_kind
  sum_law = then_law (starts rank.Sum) (goes rank.Sum) product_law
      (λ x. many_law (is_operator rank.Sum) (is_operator rank.Sum) (goes rank.Sum) sum_operation_law refl x) refl

  pub comparison_operation_law : (left : Expr) →
      Law (r.operation rank.Compare (r.sum l deep) left) (g.operation rank.Compare (g.sum l Deep) left) (is_operator rank.Compare) (goes rank.Sum) false
  unfolding r.operation g.operation same_kind
  comparison_operation_law left = then_law (is_operator rank.Compare) (goes rank.Sum) (operator_law rank.Compare k.Lt op.Lt refl refl)
      (λ o. then_law (starts rank.Sum) (goes rank.Sum) sum_law (λ right. gives_law _) refl) refl

  pub comparison_law : Law (r.comparison l deep) (g.comparison l Deep) (starts rank.Compare) (goes rank.Compare) false
  unfolding r.comparison g.comparison same_kind
  comparison_law = then_law (starts rank.Compare) (goes rank.Compare) sum_law
      (λ left. either_law (is_operator rank.Compare) (is_operator rank.Compare) (goes rank.Compare) (comparison_operation_law left) (gives_law left) refl) refl

  pub inverse_law : Law (r.inverse l deep) (g.inverse l Deep) (is k.Not) (goes rank.Not) false
  unfolding r.inverse g.inverse same_kind
  inverse_law = then_law (is k.Not) (goes rank.Not) (enter_law l k.Not refl)
      (λ _. then_law (starts rank.Not) (goes rank.Not) (deeper rank.Not) (λ x. gives_law _) refl) refl

  pub negation_law : Law (r.negation l deep) (g.negation l Deep) (starts rank.Not) (goes rank.Not) false
  unfolding r.negation g.negation same_kind
  negation_law = either_law (is k.Not) (starts rank.Not) (goes rank.Not) inverse_law comparison_law refl

  pub conjunction_operation_law : (left : Expr) →
      Law (r.operation rank.And (r.negation l deep) left) (g.operation rank.And (g.negation l Deep) left) (is_operator rank.And) (goes rank.Not) false
  unfolding r.operation g.operation same_kind
  conjunction_operation_law left = then_law (is_operator rank.And) (goes rank.Not) (operator_law rank.And k.And op.And refl refl)
      (λ o. then_law (starts rank.Not) (goes rank.Not) negation_law (λ right. gives_law _) refl) refl

  pub conjunction_law : Law (r.conjunction l deep) (g.conjunction l Deep) (starts rank.And) (goes rank.And) false
  unfolding r.conjunction g.conjunction r.chain g.chain same_kind
  conjunction_law = then_law (starts rank.And) (goes rank.And) negation_law
      (λ x. many_law (is_operator rank.And) (is_operator rank.And) (goes rank.And) conjunction_operation_law refl x) refl

  pub disjunction_operation_law : (left : Expr) →
      Law (r.operation rank.Or (r.conjunction l deep) left) (g.operation rank.Or (g.conjunction l Deep) left) (is_operator rank.Or) (goes rank.And) false
  unfolding r.operation g.operation same_kind
  disjunction_operation_law left = then_law (is_operator rank.Or) (goes rank.And) (operator_law rank.Or k.Or op.Or refl refl)
      (λ o. then_law (starts rank.And) (goes rank.And) conjunction_law (λ right. gives_law _) refl) refl

  pub disjunction_law : Law (r.disjunction l deep) (g.disjunction l Deep) (starts rank.Or) (goes rank.Or) false
  unfolding r.disjunction g.disjunction r.chain g.chain same_kind
  disjunction_law = then_law (starts rank.Or) (goes rank.Or) conjunction_law
      (λ x. many_law (is_operator rank.Or) (is_operator rank.Or) (goes rank.Or) disjunction_operation_law refl x) refl

  of_rank_law : (x : Rank) → Law (r.of_rank l deep x) (g.of_rank l Deep x) (starts x) (goes x) false
  of_rank_law rank.Or = disjunction_law
  of_rank_law rank.And = conjunction_law
  of_rank_law rank.Not = negation_law
  of_rank_law rank.Compare = comparison_law
  of_rank_law rank.Sum = sum_law
  of_rank_law rank.Product = product_law
  of_rank_law rank.Sign = sign_law
  of_rank_law rank.Atom = atom_law

pub inner_law : (l : ℕ) (x : Rank) → Law (r.inner l x) (g.inner l x) (starts x) (goes x) false
inner_law zero x = literal_law x
inner_law (suc l) x = of_rank_law l (r.inner l) (g.inner l) (inner_law l) x

pub expr_law : (l : ℕ) (x : Rank) → Law (r.expr l x) (g.expr l x) (starts x) (goes x) false
expr_law l x = of_rank_law l (r.inner l) (g.inner l) (inner_law l) x
