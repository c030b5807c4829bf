-- What the tree of a text keeps: its lines, how deep IF nests, and room for operands.
use Rattle.std.proofs.Common.{◌≡◌, ℕ, zero, suc, ◌+◌, ◌-◌, ◌*◌, ◌<◌, ◌≤◌, length, get_or, List, [], ◌∷◌, ◌++◌, Option, Some, None, Bool, true, false, refl, ap, subst, arith}
use Rattle.std.specs.Prelude.{max, if◌then◌else◌}
use Rattle.std.specs.List.{All}
use Rattle.std.proofs.lemmas.List.Elements.{All-nil, All-cons, All-append}
use Rattle.vap_lex.specs.declared.token.Token.{Token}
use Rattle.vap_ast.specs.Syntax.{Expr, Item, Constant, Array, Routine, Program}
use Rattle.vap_ast.specs.Tree.{exprs, items as one_after_another}
use Rattle.vap_ast.specs.Parsed.{room, room_of_all, Fits, IsLine, ParsedItem, ParsedItems, ParsedRoutine, Parsed}
use Rattle.vap_parse.specs.declared.kind.Kind.{Kind}
use Rattle.vap_parse.specs.declared.kind.Kind.TheVariants as k
use Rattle.vap_parse.specs.declared.kind.Rank.{Rank}
use Rattle.vap_parse.specs.declared.kind.Rank.TheVariants as rank
use Rattle.vap_parse.specs.Kinds.{kind_of, same_kind, command_of, timer_of}
use Rattle.vap_parse.specs.Input.{Mark, fine, deep, wrong, where_kind, with_line, line_of, name_in, name_at, no_limit, as_many, limit, max_levels, max_ifs}
use Rattle.vap_parse.specs.Descent.{Declared}
use Rattle.vap_parse.specs.Forms.{Marked, fines, Form, Picks, picks, Gives, gives, Then, then_, Either, this, that, Many, none, round, Anew, counted, Balanced}
use Rattle.vap_parse.specs.Grammar as g
use Rattle.vap_parse.specs.Grammar.{Accepts}

module _ (most : ℕ) where
  -- each token is fine, and its line is a line of the text
  abbrev AllGood : List Marked → Type 0
  AllGood [] = Unit {0}
  AllGood ((t, fine) ∷ ms) = IsLine most t.line × AllGood ms
  AllGood ((t, deep) ∷ ms) = ⊥
  AllGood ((t, wrong) ∷ ms) = ⊥

  good_first : (a b : List Marked) → AllGood (a ++ b) → AllGood a
  good_first [] b h = tt
  good_first ((t, fine) ∷ a) b h = (h.0, good_first a b h.1)
  good_first ((t, deep) ∷ a) b h = absurd h
  good_first ((t, wrong) ∷ a) b h = absurd h

  good_second : (a b : List Marked) → AllGood (a ++ b) → AllGood b
  good_second [] b h = h
  good_second ((t, fine) ∷ a) b h = good_second a b h.1
  good_second ((t, deep) ∷ a) b h = absurd h
  good_second ((t, wrong) ∷ a) b h = absurd h

  good_token : (m : Mark) (t : Token) → AllGood ((t, m) ∷ []) → IsLine most t.line × (m ≡ fine)
  good_token fine t h = (h.0, refl)
  good_token deep t h = absurd h
  good_token wrong t h = absurd h

  -- what is spelled by good tokens is so
  record Keeps {A : Type 0} (T : Form A) (K : A → Type 0) : Type 0 where
    by : (o n : ℕ) (ms : List Marked) (x : A) → T o ms x n → AllGood ms → K x

  module _ {A : Type 0} (pick : Token → Option A) (mark : ℕ → Token → Mark) (left : ℕ → ℕ) (K : A → Type 0)
      (holds : (o : ℕ) (t : Token) (x : A) → pick t ≡ Some x → mark o t ≡ fine → IsLine most t.line → K x) where
    picks_by : (o n : ℕ) (ms : List Marked) (x : A) → Picks pick mark left o ms x n → AllGood ms → K x
    picks_by _ _ _ _ (picks o t x is) h = let good = good_token (mark o t) t h in holds o t x is good.1 good.0

    picks_keep : Keeps (Picks pick mark left) K
    picks_keep = record { by = picks_by }

  gives_by : {A : Type 0} (x : A) (K : A → Type 0) → K x → (o n : ℕ) (ms : List Marked) (y : A) → Gives x o ms y n → K y
  gives_by x K h _ _ _ _ (gives o) = h

  gives_keep : {A : Type 0} {x : A} {K : A → Type 0} → K x → Keeps (Gives x) K
  gives_keep {x = x} {K = K} h = record { by = λ o n ms y s good. gives_by x K h o n ms y s }

  then_by : {A B : Type 0} (P : Form A) (Q : A → Form B) (J : A → Type 0) (K : B → Type 0) → Keeps P J → ((x : A) → J x → Keeps (Q x) K) →
      (o n : ℕ) (ms : List Marked) (y : B) → Then P Q o ms y n → AllGood ms → K y
  then_by P Q J K one two _ _ _ _ (then_ o m n a b x y s u) h = (two x (one.by o m a x s (good_first a b h))).by m n b y u (good_second a b h)

  then_keep : {A B : Type 0} {P : Form A} {Q : A → Form B} {J : A → Type 0} {K : B → Type 0} → Keeps P J → ((x : A) → J x → Keeps (Q x) K) → Keeps (Then P Q) K
  then_keep {P = P} {Q = Q} {J = J} {K = K} one two = record { by = then_by P Q J K one two }

  either_by : {A : Type 0} (P Q : Form A) (K : A → Type 0) → Keeps P K → Keeps Q K → (o n : ℕ) (ms : List Marked) (x : A) → Either P Q o ms x n →
      AllGood ms → K x
  either_by P Q K one two _ _ _ _ (this o n ms x s) h = one.by o n ms x s h
  either_by P Q K one two _ _ _ _ (that o n ms x s) h = two.by o n ms x s h

  either_keep : {A : Type 0} {P Q : Form A} {K : A → Type 0} → Keeps P K → Keeps Q K → Keeps (Either P Q) K
  either_keep {P = P} {Q = Q} {K = K} one two = record { by = either_by P Q K one two }

  many_by : {A : Type 0} (Q : A → Form A) (K : A → Type 0) → ((x : A) → K x → Keeps (Q x) K) → (o n : ℕ) (ms : List Marked) (x z : A) → K x →
      Many Q x o ms z n → AllGood ms → K z
  many_by Q K two _ _ _ _ _ h (none x o) good = h
  many_by Q K two _ _ _ _ _ h (round x y z o m n a b s more) good =
      many_by Q K two m n b y z ((two x h).by o m a y s (good_first a b good)) more (good_second a b good)

  many_keep : {A : Type 0} {Q : A → Form A} {K : A → Type 0} → ((x : A) → K x → Keeps (Q x) K) → (x : A) → K x → Keeps (Many Q x) K
  many_keep {Q = Q} {K = K} two x h = record { by = λ o n ms z s good. many_by Q K two o n ms x z h s good }

  anew_by : {A : Type 0} (P : Form A) (K : A → Type 0) → Keeps P K → (o n : ℕ) (ms : List Marked) (x : A) → Anew P o ms x n → AllGood ms → K x
  anew_by P K one _ _ _ _ (counted o n ms x s) h = one.by _ n ms x s h

  anew_keep : {A : Type 0} {P : Form A} {K : A → Type 0} → Keeps P K → Keeps (Anew P) K
  anew_keep {P = P} {K = K} one = record { by = anew_by P K one }

  weaken : {A : Type 0} {P : Form A} {J K : A → Type 0} → ((x : A) → J x → K x) → Keeps P J → Keeps P K
  weaken {P = P} {J = J} {K = K} into one = record { by = λ o n ms x s good. into x (one.by o n ms x s good) }

  abbrev Any : {A : Type 0} → A → Type 0
  Any x = Unit {0}

  any_keep : {A : Type 0} (P : Form A) → Keeps P Any
  any_keep P = record { by = λ o n ms x s good. tt }

  -- ---- tokens

  where_line : (b : Bool) (v x : ℕ) → (if b then Some v else None) ≡ Some x → v ≡ x
  where_line true v x e = cc
  where_line false v x e = absurd cc

  expect_keep : (kd : Kind) → Keeps (g.expect kd) (IsLine most)
  expect_keep kd = picks_keep (where_kind kd line_of) no_limit as_many (IsLine most)
      (λ o t x e marks line. subst (IsLine most) (where_line (same_kind (kind_of t.kind) kd) t.line x e) line)

  limited : (l : ℕ) → limit l ≡ fine → 0 < l
  limited zero e = absurd cc
  limited (suc l) e = omega arith

  enter_keep : (l : ℕ) (kd : Kind) → Keeps (g.enter l kd) (λ x. IsLine most x × (0 < l))
  enter_keep l kd = picks_keep (where_kind kd line_of) (λ n t. limit l) as_many (λ x. IsLine most x × (0 < l))
      (λ o t x e marks line. (subst (IsLine most) (where_line (same_kind (kind_of t.kind) kd) t.line x e) line, limited l marks))

  lined : {A : Type 0} (c : Option A) (line : ℕ) (x : A × ℕ) → with_line c line ≡ Some x → line ≡ x.1
  lined None line x e = absurd cc
  lined {A = A} (Some y) line x e = let same : (y, line) ≡ x = cc in ap (λ (w : A × ℕ). w.1) same

  name_keep : Keeps g.name (λ w. IsLine most w.1)
  name_keep = picks_keep name_at no_limit as_many (λ w. IsLine most w.1) (λ o t x e marks line. subst (IsLine most) (lined (name_in t.kind) t.line x e) line)

  command_keep : Keeps g.command (λ w. IsLine most w.1)
  command_keep = picks_keep (λ t. with_line (command_of (kind_of t.kind)) t.line) no_limit as_many (λ w. IsLine most w.1)
      (λ o t x e marks line. subst (IsLine most) (lined (command_of (kind_of t.kind)) t.line x e) line)

  timer_keep : Keeps g.timer (λ w. IsLine most w.1)
  timer_keep = picks_keep (λ t. with_line (timer_of (kind_of t.kind)) t.line) no_limit as_many (λ w. IsLine most w.1)
      (λ o t x e marks line. subst (IsLine most) (lined (timer_of (kind_of t.kind)) t.line x e) line)

  -- ---- expressions

  abbrev base : Rank → ℕ
  base rank.Or = 6
  base rank.And = 5
  base rank.Not = 4
  base rank.Compare = 4
  base rank.Sum = 3
  base rank.Product = 2
  base rank.Sign = 1
  base rank.Atom = 1

  abbrev Roomy : ℕ → Rank → Expr → Type 0
  Roomy l r x = room x ≤ 6 * l + base r

  -- a level deeper
  abbrev Deeper : ℕ → Rank → Expr → Type 0
  Deeper l r x = room x + 6 ≤ 6 * l + base r

  room-snoc : (xs : List Expr) (x : Expr) → room_of_all (exprs (xs ++ x ∷ [])) ≤ max (room_of_all (exprs xs)) (room x)
  room-snoc [] x = omega arith
  room-snoc (y ∷ xs) x = omega (arith, room-snoc xs x)

  literal_keep : (l : ℕ) (r : Rank) → Keeps g.literal (Roomy l r)
  unfolding g.literal
  literal_keep l r = then_keep (any_keep g.number) (λ n h. gives_keep (one_fits r)) where
    one_fits : (r : Rank) → 1 ≤ 6 * l + base r
    one_fits rank.Or = omega arith
    one_fits rank.And = omega arith
    one_fits rank.Not = omega arith
    one_fits rank.Compare = omega arith
    one_fits rank.Sum = omega arith
    one_fits rank.Product = omega arith
    one_fits rank.Sign = omega arith
    one_fits rank.Atom = omega arith

  module _ (l : ℕ) (Deep : Rank → Form Expr) (deeper : 0 < l → (x : Rank) → Keeps (Deep x) (Deeper l x)) where
    index_keep : Keeps (g.index l Deep) (λ x. room x ≤ 6 * l)
    unfolding g.index
    index_keep = then_keep (enter_keep l k.OpenIndex)
        (λ _ h. then_keep (deeper h.1 rank.Or) (λ x j. then_keep (any_keep (g.expect k.CloseIndex)) (λ _ _. gives_keep (omega arith))))

    brackets_keep : Keeps (g.brackets l Deep) (Roomy l rank.Atom)
    unfolding g.brackets
    brackets_keep = then_keep (enter_keep l k.Open)
        (λ _ h. then_keep (deeper h.1 rank.Or) (λ x j. then_keep (any_keep (g.expect k.Close)) (λ _ _. gives_keep (omega arith))))

    abbrev Args : List Expr → Type 0
    Args xs = room_of_all (exprs xs) ≤ 6 * l

    next_argument_keep : 0 < l → (xs : List Expr) → Args xs → Keeps (g.next_argument l Deep xs) Args
    unfolding g.next_argument
    next_argument_keep lt xs h = then_keep (any_keep (g.expect k.Comma))
        (λ _ _. then_keep (deeper lt rank.Or) (λ x j. gives_keep (omega (arith, room-snoc xs x))))

    some_arguments_keep : 0 < l → Keeps (g.some_arguments l Deep) Args
    unfolding g.some_arguments
    some_arguments_keep lt = then_keep (deeper lt rank.Or) (λ x j. many_keep (next_argument_keep lt) (x ∷ []) (omega arith))

    arguments_keep : Keeps (g.arguments l Deep) Args
    unfolding g.arguments
    arguments_keep = then_keep (enter_keep l k.Open)
        (λ _ h. then_keep (either_keep (some_arguments_keep h.1) (gives_keep {K = Args} (omega arith)))
        (λ xs j. then_keep (any_keep (g.expect k.Close)) (λ _ _. gives_keep j)))

    a_reading_keep : Keeps (g.a_reading l Deep) (Roomy l rank.Atom)
    unfolding g.a_reading
    a_reading_keep = then_keep (any_keep g.reading) (λ r _. then_keep arguments_keep (λ xs h. gives_keep (omega arith)))

    current_state_keep : Keeps (g.current_state l Deep) (Roomy l rank.Atom)
    unfolding g.current_state
    current_state_keep = then_keep (any_keep (g.expect k.CurrentState))
        (λ _ _. then_keep (enter_keep l k.Open) (λ _ h. then_keep (deeper h.1 rank.Or)
        (λ x j. then_keep (any_keep (g.expect k.Comma))
        (λ _ _. then_keep (any_keep g.aspect) (λ a _. then_keep (any_keep (g.expect k.Close)) (λ _ _. gives_keep (omega arith)))))))

    any_interstage_keep : Keeps (g.any_interstage l Deep) (Roomy l rank.Atom)
    unfolding g.any_interstage
    any_interstage_keep = then_keep (any_keep (g.expect k.AnyInterstageActive))
        (λ _ _. then_keep (any_keep (Either (g.empty_brackets l Deep) (Gives 0))) (λ _ _. gives_keep (omega arith)))

    cell_of_keep : (w : List ℕ) → Keeps (g.cell_of l Deep w) (Roomy l rank.Atom)
    unfolding g.cell_of
    cell_of_keep w = then_keep index_keep (λ i h. gives_keep (omega arith))

    name_or_cell_keep : Keeps (g.name_or_cell l Deep) (Roomy l rank.Atom)
    unfolding g.name_or_cell
    name_or_cell_keep = then_keep (any_keep g.name) (λ w _. either_keep (cell_of_keep w.0) (gives_keep (omega arith)))

    atom_keep : Keeps (g.atom l Deep) (Roomy l rank.Atom)
    unfolding g.atom
    atom_keep = either_keep (literal_keep l rank.Atom)
        (either_keep name_or_cell_keep (either_keep brackets_keep (either_keep current_state_keep (either_keep any_interstage_keep a_reading_keep))))

    negative_keep : Keeps (g.negative l Deep) (Roomy l rank.Sign)
    unfolding g.negative
    negative_keep = then_keep (enter_keep l k.Minus) (λ _ h. then_keep (deeper h.1 rank.Sign) (λ x j. gives_keep (omega arith)))

    sign_keep : Keeps (g.sign l Deep) (Roomy l rank.Sign)
    unfolding g.sign
    sign_keep = either_keep negative_keep atom_keep

    product_operation_keep : (left : Expr) → Roomy l rank.Product left → Keeps (g.operation rank.Product (g.sign l Deep) left) (Roomy l rank.Product)
    unfolding g.operation
    product_operation_keep left h = then_keep (any_keep (g.operator rank.Product)) (λ op _. then_keep sign_keep (λ right j. gives_keep (omega arith)))

    product_keep : Keeps (g.product l Deep) (Roomy l rank.Product)
    unfolding g.product g.chain
    product_keep = then_keep sign_keep (λ x h. many_keep product_operation_keep x (omega arith))

    sum_operation_keep : (left : Expr) → Roomy l rank.Sum left → Keeps (g.operation rank.Sum (g.product l Deep) left) (Roomy l rank.Sum)
    unfolding g.operation
    sum_operation_keep left h = then_keep (any_keep (g.operator rank.Sum)) (λ op _. then_keep product_keep (λ right j. gives_keep (omega arith)))

    sum_keep : Keeps (g.sum l Deep) (Roomy l rank.Sum)
    unfolding g.sum g.chain
    sum_keep = then_keep product_keep (λ x h. many_keep sum_operation_keep x (omega arith))

    comparison_operation_keep : (left : Expr) → Roomy l rank.Compare left → Keeps (g.operation rank.Compare (g.sum l Deep) left) (Roomy l rank.Compare)
    unfolding g.operation
    comparison_operation_keep left h = then_keep (any_keep (g.operator rank.Compare)) (λ op _. then_keep sum_keep (λ right j. gives_keep (omega arith)))

    comparison_keep : Keeps (g.comparison l Deep) (Roomy l rank.Compare)
    unfolding g.comparison
    comparison_keep = then_keep sum_keep (λ left h. either_keep (comparison_operation_keep left (omega arith)) (gives_keep (omega arith)))

    inverse_keep : Keeps (g.inverse l Deep) (Roomy l rank.Not)
    unfolding g.inverse
    inverse_keep = then_keep (enter_keep l k.Not) (λ _ h. then_keep (deeper h.1 rank.Not) (λ x j. gives_keep (omega arith)))

    negation_keep : Keeps (g.negation l Deep) (Roomy l rank.Not)
    unfolding g.negation
    negation_keep = either_keep inverse_keep comparison_keep

    conjunction_operation_keep : (left : Expr) → Roomy l rank.And left → Keeps (g.operation rank.And (g.negation l Deep) left) (Roomy l rank.And)
    unfolding g.operation
    conjunction_operation_keep left h = then_keep (any_keep (g.operator rank.And)) (λ op _. then_keep negation_keep (λ right j. gives_keep (omega arith)))

    conjunction_keep : Keeps (g.conjunction l Deep) (Roomy l rank.And)
    unfolding g.conjunction g.chain
    conjunction_keep = then_keep negation_keep (λ x h. many_keep conjunction_operation_keep x (omega arith))

    disjunction_operation_keep : (left : Expr) → Roomy l rank.Or left → Keeps (g.operation rank.Or (g.conjunction l Deep) left) (Roomy l rank.Or)
    unfolding g.operation
    disjunction_operation_keep left h = then_keep (any_keep (g.operator rank.Or)) (λ op _. then_keep conjunction_keep (λ right j. gives_keep (omega arith)))

    disjunction_keep : Keeps (g.disjunction l Deep) (Roomy l rank.Or)
    unfolding g.disjunction g.chain
    disjunction_keep = then_keep conjunction_keep (λ x h. many_keep disjunction_operation_keep x (omega arith))

    of_rank_keep : (x : Rank) → Keeps (g.of_rank l Deep x) (Roomy l x)
    of_rank_keep rank.Or = disjunction_keep
    of_rank_keep rank.And = conjunction_keep
    of_rank_keep rank.Not = negation_keep
    of_rank_keep rank.Compare = comparison_keep
    of_rank_keep rank.Sum = sum_keep
    of_rank_keep rank.Product = product_keep
    of_rank_keep rank.Sign = sign_keep
    of_rank_keep rank.Atom = atom_keep

  deep_keep : (l : ℕ) → 0 < l → (x : Rank) → Keeps (g.inner l x) (Deeper l x)
  deep_keep zero lt x = absurd (omega arith)
  deep_keep (suc l) lt x = weaken (λ e h. one_more x e h) (of_rank_keep l (g.inner l) (deep_keep l) x) where
    one_more : (x : Rank) (e : Expr) → Roomy l x e → Deeper (suc l) x e
    one_more x e h = omega arith

  expr_keep : (l : ℕ) (x : Rank) → Keeps (g.expr l x) (Roomy l x)
  expr_keep l x = of_rank_keep l (g.inner l) (deep_keep l) x

  -- ---- statements

  whole_keep : Keeps (g.expr max_levels rank.Or) Fits
  whole_keep = weaken (λ e h. omega arith) (expr_keep max_levels rank.Or)

  expression_keep : Keeps g.expression Fits
  unfolding g.expression
  expression_keep = anew_keep whole_keep

  module _ (ifs : ℕ) where
    abbrev Good : Item → Type 0
    Good x = ParsedItem most ifs x

    labelled_keep : (w : List ℕ × ℕ) → IsLine most w.1 → Keeps (g.labelled w) Good
    unfolding g.labelled
    labelled_keep w line = then_keep (any_keep (g.expect k.Colon)) (λ _ _. gives_keep line)

    assigned_keep : (w : List ℕ × ℕ) → IsLine most w.1 → Keeps (g.assigned w) Good
    unfolding g.assigned
    assigned_keep w line = then_keep (any_keep (g.expect k.Assign)) (λ _ _. then_keep expression_keep (λ x h. gives_keep (line, h)))

    cell_assigned_keep : (w : List ℕ × ℕ) → IsLine most w.1 → Keeps (g.cell_assigned w) Good
    unfolding g.cell_assigned
    cell_assigned_keep w line = then_keep (index_keep max_levels (g.inner max_levels) (deep_keep max_levels))
        (λ i h. then_keep (any_keep (g.expect k.Assign)) (λ _ _. then_keep whole_keep (λ x j. gives_keep (line, (omega arith, j)))))

    named_item_keep : Keeps g.named_item Good
    unfolding g.named_item
    named_item_keep = then_keep name_keep (λ w line. either_keep (labelled_keep w line)
        (either_keep (assigned_keep w line) (anew_keep (cell_assigned_keep w line))))

    goto_keep : Keeps g.goto Good
    unfolding g.goto
    goto_keep = then_keep (expect_keep k.Goto) (λ at line. then_keep (any_keep g.destination) (λ to _. gives_keep (line, tt)))

    gosub_keep : Keeps g.gosub Good
    unfolding g.gosub
    gosub_keep = then_keep (expect_keep k.Gosub) (λ at line. then_keep (any_keep g.name) (λ w _. gives_keep (line, tt)))

    trace_keep : Keeps g.trace Good
    unfolding g.trace
    trace_keep = then_keep (expect_keep k.Trace)
        (λ at line. then_keep (any_keep (g.expect k.Open)) (λ _ _. then_keep (any_keep Balanced) (λ _ _. gives_keep (line, tt))))

    timer_statement_keep : Keeps g.timer_statement Good
    unfolding g.timer_statement
    timer_statement_keep = then_keep timer_keep
        (λ what line. then_keep (any_keep (g.expect k.Open))
        (λ _ _. then_keep (any_keep g.name) (λ w _. then_keep (any_keep (g.expect k.Close)) (λ _ _. gives_keep (line, tt)))))

    command_statement_keep : Keeps g.command_statement Good
    unfolding g.command_statement
    command_statement_keep = then_keep command_keep
        (λ what line. then_keep (anew_keep (arguments_keep max_levels (g.inner max_levels) (deep_keep max_levels))) (λ xs h. gives_keep (line, omega arith)))

    simple_statement_keep : Keeps g.simple_statement Good
    unfolding g.simple_statement
    simple_statement_keep = either_keep goto_keep (either_keep gosub_keep (either_keep trace_keep (either_keep timer_statement_keep command_statement_keep)))

    abbrev All_good : List Item → Type 0
    All_good xs = ParsedItems most ifs (one_after_another xs)

    items-snoc : (xs : List Item) (x : Item) → All_good xs → Good x → All_good (xs ++ x ∷ [])
    items-snoc [] x h j = (j, tt)
    items-snoc (y ∷ xs) x h j = (h.0, items-snoc xs x h.1 j)

    module _ (Deep : Form (List Item)) (deeper : 0 < ifs → Keeps Deep (λ xs. ParsedItems most (ifs - 1) (one_after_another xs))) where
      other_branch_keep : 0 < ifs → Keeps (g.other_branch ifs Deep) (λ xs. ParsedItems most (ifs - 1) (one_after_another xs))
      unfolding g.other_branch
      other_branch_keep lt = then_keep (any_keep (g.expect k.Else)) (λ _ _. deeper lt)

      else_branch_keep : 0 < ifs → Keeps (g.else_branch ifs Deep) (λ xs. ParsedItems most (ifs - 1) (one_after_another xs))
      unfolding g.else_branch
      else_branch_keep lt = either_keep (other_branch_keep lt) (gives_keep tt)

      branch_keep : Keeps (g.branch ifs Deep) Good
      unfolding g.branch
      branch_keep = then_keep (enter_keep ifs k.If)
          (λ at line. then_keep expression_keep (λ x h. then_keep (any_keep (g.expect k.Then))
          (λ _ _. then_keep (deeper line.1) (λ ys j. then_keep (else_branch_keep line.1)
          (λ ns i. then_keep (any_keep (g.expect k.End)) (λ _ _. gives_keep (line.0, (h, line.1, j, i))))))))

      item_keep : Keeps (g.item ifs Deep) Good
      unfolding g.item
      item_keep = either_keep named_item_keep (either_keep branch_keep simple_statement_keep)

      one_more_keep : (xs : List Item) → All_good xs → Keeps (g.one_more ifs Deep xs) All_good
      unfolding g.one_more
      one_more_keep xs h = then_keep item_keep (λ x j. then_keep (any_keep g.semis) (λ _ _. gives_keep (items-snoc xs x h j)))

      items_keep : Keeps (g.items ifs Deep) All_good
      unfolding g.items
      items_keep = many_keep one_more_keep [] tt

      block_keep : Keeps (g.block ifs Deep) All_good
      unfolding g.block
      block_keep = then_keep (any_keep g.semis) (λ _ _. items_keep)

  inside_keep : (n : ℕ) → 0 < n → Keeps (g.inside n) (λ xs. ParsedItems most (n - 1) (one_after_another xs))
  inside_keep zero lt = absurd (omega arith)
  inside_keep (suc n) lt = let e : suc n - 1 ≡ n = omega arith in rw e (block_keep n (g.inside n) (inside_keep n))

  body_keep : Keeps (g.body max_ifs) (λ xs. ParsedItems most 100 (one_after_another xs))
  body_keep = block_keep max_ifs (g.inside max_ifs) (inside_keep max_ifs)

  main_keep : Keeps (g.items max_ifs (g.inside max_ifs)) (λ xs. ParsedItems most 100 (one_after_another xs))
  main_keep = items_keep max_ifs (g.inside max_ifs) (inside_keep max_ifs)

  -- ---- declarations

  all-snoc : {A : Type 0} (P : A → Type 0) (xs : List A) (x : A) → All P xs → P x → All P (xs ++ x ∷ [])
  all-snoc P xs x h j = All-append P xs (x ∷ []) h (All-cons P x [] j (All-nil P))

  abbrev Lined : List Constant → Type 0
  Lined cs = All (λ c. IsLine most c.line) cs

  abbrev LinedArrays : List Array → Type 0
  LinedArrays xs = All (λ a. IsLine most a.line) xs

  constant_keep : Keeps g.constant (λ c. IsLine most c.line)
  unfolding g.constant
  constant_keep = then_keep name_keep (λ w line. then_keep (any_keep (g.expect k.Eq)) (λ _ _. then_keep (any_keep g.value) (λ v _. gives_keep line)))

  next_constant_keep : (cs : List Constant) → Lined cs → Keeps (g.next_constant cs) Lined
  unfolding g.next_constant
  next_constant_keep cs h = then_keep (any_keep (g.expect k.Comma))
      (λ _ _. then_keep constant_keep (λ c j. gives_keep (all-snoc (λ c. IsLine most c.line) cs c h j)))

  constants_keep : (cs : List Constant) → Lined cs → Keeps (g.constants cs) Lined
  unfolding g.constants
  constants_keep cs h = then_keep (any_keep (g.expect k.Const))
      (λ _ _. then_keep constant_keep (λ c j. many_keep next_constant_keep (cs ++ c ∷ []) (all-snoc (λ c. IsLine most c.line) cs c h j)))

  array_keep : Keeps g.array (λ a. IsLine most a.line)
  unfolding g.array
  array_keep = then_keep name_keep (λ w line. then_keep (any_keep (g.expect k.OpenIndex))
      (λ _ _. then_keep (any_keep g.number) (λ n _. then_keep (any_keep (g.expect k.CloseIndex))
      (λ _ _. then_keep (any_keep (g.expect k.Eq)) (λ _ _. then_keep (any_keep g.values) (λ vs _. gives_keep line))))))

  next_array_keep : (xs : List Array) → LinedArrays xs → Keeps (g.next_array xs) LinedArrays
  unfolding g.next_array
  next_array_keep xs h = then_keep (any_keep (g.expect k.Comma)) (λ _ _. then_keep array_keep (λ a j. gives_keep (all-snoc (λ a. IsLine most a.line) xs a h j)))

  arrays_keep : (xs : List Array) → LinedArrays xs → Keeps (g.arrays xs) LinedArrays
  unfolding g.arrays
  arrays_keep xs h = then_keep (any_keep (g.expect k.Array))
      (λ _ _. then_keep array_keep (λ a j. many_keep next_array_keep (xs ++ a ∷ []) (all-snoc (λ a. IsLine most a.line) xs a h j)))

  abbrev LinedAll : Declared → Type 0
  LinedAll d = Lined d.0 × LinedArrays d.1

  one_declaration_keep : (d : Declared) → LinedAll d → Keeps (g.one_declaration d) LinedAll
  unfolding g.one_declaration g.declared_frequency g.declared_constants g.declared_arrays
  one_declaration_keep d h = either_keep (then_keep (any_keep g.frequencies) (λ _ _. gives_keep h))
      (either_keep (then_keep (constants_keep d.0 h.0) (λ cs j. gives_keep (j, h.1))) (then_keep (arrays_keep d.1 h.1) (λ xs j. gives_keep (h.0, j))))

  declaration_keep : (d : Declared) → LinedAll d → Keeps (g.declaration d) LinedAll
  unfolding g.declaration
  declaration_keep d h = then_keep (one_declaration_keep d h) (λ e j. then_keep (any_keep g.semis) (λ _ _. gives_keep j))

  sub_keep : Keeps g.sub (ParsedRoutine most)
  unfolding g.sub
  sub_keep = then_keep (any_keep (g.expect k.Subroutine))
      (λ _ _. then_keep name_keep (λ w line. then_keep body_keep
      (λ xs h. then_keep (any_keep g.ending) (λ _ _. gives_keep (record { line = line; body = h })))))

  abbrev Subs : List Routine → Type 0
  Subs rs = All (λ r. ParsedRoutine most r) rs

  next_sub_keep : (rs : List Routine) → Subs rs → Keeps (g.next_sub rs) Subs
  unfolding g.next_sub
  next_sub_keep rs h = then_keep sub_keep (λ r j. gives_keep (all-snoc (λ r. ParsedRoutine most r) rs r h j))

  program_keep : Keeps g.program (Parsed most)
  unfolding g.program
  program_keep = then_keep (any_keep (g.expect k.Program)) (λ _ _. then_keep name_keep (λ w line. then_keep (any_keep g.semis) (λ _ _.
      then_keep (many_keep declaration_keep ([], []) (All-nil (λ c. IsLine most c.line), All-nil (λ a. IsLine most a.line))) (λ d h.
      then_keep (many_keep next_sub_keep [] (All-nil (λ r. ParsedRoutine most r))) (λ rs i.
      then_keep main_keep (λ xs j. then_keep (any_keep g.ending)
      (λ _ _. gives_keep (record { consts = h.0; arrays = h.1; subs = i; main = record { line = line; body = j } }))))))))

  all_good : (ts : List Token) → All (λ t. IsLine most t.line) ts → AllGood (fines ts)
  all_good [] h = tt
  all_good (t ∷ ts) h = (h 0 t (omega arith), all_good ts (λ i d lt. later i d lt))
    where
      later : (i : ℕ) (d : Token) → i < length ts → IsLine most (get_or ts i d).line
      later i d lt = h (suc i) d (omega arith)

  pub parsed : (ts : List Token) (p : Program) → All (λ t. IsLine most t.line) ts → Accepts ts p → Parsed most p
  parsed ts p h s = program_keep.by _ s.0 (fines ts) p s.1 (all_good ts h)
