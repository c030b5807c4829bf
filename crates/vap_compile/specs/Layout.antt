-- The instructions of a program, and the places of its labels. Each statement is laid out at the place at which it
-- begins, and sizes tell where the next one begins: no jump is filled in later.
use Rattle.std.specs.Str.{bytes_eq}
use Rattle.std.specs.Option.{option_or}
use Rattle.std.specs.Prelude.{◌≡◌, ℕ, ◌+◌, List, [], ◌∷◌, ◌++◌, Bool, true, false, ◌||◌, Option, Some, None, pos, if◌then◌else◌, codes, unwrap_or, map}
use Rattle.sig_types.specs.declared.kinds.CommandKind.{CommandKind}
use Rattle.sig_types.specs.declared.kinds.TimerKind.{TimerKind}
use Rattle.sig_types.specs.declared.kinds.TimerKind.TheVariants.{Start as Start_timer, Stop as Stop_timer, Reset as Reset_timer}
use Rattle.vap_ast.specs.declared.name.Meaning.{Meaning}
use Rattle.vap_ast.specs.declared.name.Meaning.TheVariants.{Constant, Sub as Sub_of, Timer as Timer_of, Variable}
use Rattle.vap_ast.specs.declared.tree.BinaryOp.{BinaryOp}
use Rattle.vap_ast.specs.declared.tree.BinaryOp.TheVariants.{Or as O_or, And as O_and, Eq as O_eq, Ne as O_ne, Lt as O_lt, Le as O_le, Gt as O_gt, Ge as O_ge, Add as O_add, Sub as O_sub, Mul as O_mul, Div as O_div}
use Rattle.vap_ast.specs.declared.tree.UnaryOp.{UnaryOp}
use Rattle.vap_ast.specs.declared.tree.UnaryOp.TheVariants.{Neg as O_neg, Not as O_not}
use Rattle.vap_ast.specs.declared.name.Entry.{Entry}
use Rattle.vap_ast.specs.declared.tree.Routine.{Routine}
use Rattle.vap_ast.specs.Tree.{routine_of}
use Rattle.vap_ast.specs.Names.{meaning_in}
use Rattle.vap_ast.specs.Value.{array_number}
use Rattle.vap_ast.specs.Mean.{variable_number, timer_number}
use Rattle.vap_code.specs.declared.Instr.{Instr}
use Rattle.vap_code.specs.declared.Instr.TheVariants.{Tick, Push, Load, Store, Cell, SetCell, Timer, Neg, Not, Add, Sub, Mul, Div, Eq, Ne, Lt, Le, Gt, Ge, And, Or, Read, Do, Start, Stop, Reset, Jump, JumpZero, Call, Ret}
use Rattle.vap_ast.specs.Syntax.{Expr, Exprs, Item, Items, Stmt}
use Rattle.vap_ast.specs.Sizes.{expr_size, items_size, item_size}

-- these were put at the end
abbrev pub Appends : {A : Type 0} → List A → List A → List A → Type 0
Appends old new more = new ≡ old ++ more

-- the instruction of an operator on two numbers
abbrev pub binary_instr : BinaryOp → Instr
binary_instr O_or = Or
binary_instr O_and = And
binary_instr O_eq = Eq
binary_instr O_ne = Ne
binary_instr O_lt = Lt
binary_instr O_le = Le
binary_instr O_gt = Gt
binary_instr O_ge = Ge
binary_instr O_add = Add
binary_instr O_sub = Sub
binary_instr O_mul = Mul
binary_instr O_div = Div

-- the instruction of an operator on one number
abbrev pub unary_instr : UnaryOp → Instr
unary_instr O_neg = Neg
unary_instr O_not = Not

-- the instruction of a timer command
abbrev pub timer_instr : TimerKind → ℕ → Instr
timer_instr Start_timer t = Start t
timer_instr Stop_timer t = Stop t
timer_instr Reset_timer t = Reset t

-- the instruction of a plain name: a constant's value, a timer's count or a variable; no checked program has another
-- one there
abbrev pub name_instr : Option Meaning → Instr
name_instr (Some (Constant v)) = Push v
name_instr (Some (Timer_of t)) = Timer t
name_instr (Some (Variable x)) = Load x
name_instr _ = Push (pos 0)

-- the number of a subroutine, which a checked program always has
abbrev pub sub_number : Option Meaning → ℕ
sub_number (Some (Sub_of k)) = k
sub_number _ = 0

-- ---- instructions

module _ (names : List Entry) where
  abbrev mutual
    -- an expression: its operands from left to right, and then its operator
    pub expr_code : Expr → List Instr
    expr_code (Expr.Literal v) = Push v ∷ []
    expr_code (Expr.Name name) = name_instr (meaning_in names name) ∷ []
    expr_code (Expr.Cell array index) = expr_code index ++ Cell (array_number (meaning_in names array)) ∷ []
    expr_code (Expr.Unary op arg) = expr_code arg ++ unary_instr op ∷ []
    expr_code (Expr.Binary op left right) = expr_code left ++ (expr_code right ++ binary_instr op ∷ [])
    expr_code (Expr.Read kind args) = exprs_code args ++ Read kind ∷ []

    -- arguments from left to right
    pub exprs_code : Exprs → List Instr
    exprs_code Exprs.none = []
    exprs_code (Exprs.next arg args) = expr_code arg ++ exprs_code args

  -- an assignment: the value, and the variable takes it
  abbrev pub assign_code : ℕ → List ℕ → Expr → List Instr
  assign_code line target e =
      Tick line ∷ (expr_code e ++ Store (variable_number (meaning_in names target)) ∷ [])

  -- an assignment to a cell: the index, the value, and the cell takes it
  abbrev pub cell_code : ℕ → List ℕ → Expr → Expr → List Instr
  cell_code line array index e =
      Tick line ∷ (expr_code index ++ (expr_code e ++ SetCell (array_number (meaning_in names array)) ∷ []))

  -- a command: its arguments, and the command
  abbrev pub command_code : ℕ → CommandKind → Exprs → List Instr
  command_code line kind args = Tick line ∷ (exprs_code args ++ Do kind ∷ [])

  -- a call, and behind it the unit of its return
  abbrev pub call_code : ℕ → List ℕ → List Instr
  call_code line sub = Tick line ∷ Call (sub_number (meaning_in names sub)) ∷ Tick line ∷ []

  -- a choice: the test, the first branch with a jump past the second, and the second branch
  abbrev pub choice_code : ℕ → List Instr → List Instr → List Instr → ℕ → ℕ → List Instr
  choice_code line test first second to_second to_end =
      Tick line ∷ (test ++ (JumpZero to_second ∷ (first ++ (Jump to_end ∷ second))))

  module _ (labels : List ℕ → ℕ) where
    abbrev mutual
      -- a statement that begins at p, where labels have these places
      pub stmt_code : ℕ → ℕ → Stmt → List Instr
      stmt_code p line (Stmt.Assign target e) = assign_code line target e
      stmt_code p line (Stmt.Cell array index e) = cell_code line array index e
      stmt_code p line (Stmt.If test first second) =
          let at_first = p + expr_size test + 2 in
          let at_second = at_first + items_size first + 1 in
          choice_code line (expr_code test) (items_code at_first first) (items_code at_second second)
          at_second (at_second + items_size second)
      stmt_code p line (Stmt.Goto label) = Tick line ∷ Jump (labels label) ∷ []
      stmt_code p line (Stmt.Gosub sub) = call_code line sub
      stmt_code p line (Stmt.Do kind args) = command_code line kind args
      stmt_code p line (Stmt.Timer kind timer) =
          Tick line ∷ timer_instr kind (timer_number (meaning_in names timer)) ∷ []
      stmt_code p line Stmt.Trace = Tick line ∷ []

      -- an item that begins at p; a label has no instruction
      pub item_code : ℕ → Item → List Instr
      item_code p (Item.Label name line) = []
      item_code p (Item.Step line what) = stmt_code p line what

      -- items one after another, from place p on
      pub items_code : ℕ → Items → List Instr
      items_code p Items.none = []
      items_code p (Items.next item items) = item_code p item ++ items_code (p + item_size item) items

-- ---- labels

-- whether an item is a statement
abbrev pub is_step : Item → Bool
is_step (Item.Label name line) = false
is_step (Item.Step line what) = true

-- whether a statement is among items
abbrev pub items_steps : Items → Bool
items_steps Items.none = false
items_steps (Items.next item items) = is_step item || items_steps items

module _ (label : List ℕ) where
  abbrev mutual
    -- the place of the label in a branch of a statement that begins at p; `after` is the place of what comes next
    pub place_in_stmt : ℕ → ℕ → Stmt → Option ℕ
    place_in_stmt p after (Stmt.If test first second) =
        let at_first = p + expr_size test + 2 in
        let at_second = at_first + items_size first + 1 in
        option_or (place_in_items at_first after first) (place_in_items at_second after second)
    place_in_stmt p after (Stmt.Assign _ _) = None
    place_in_stmt p after (Stmt.Cell _ _ _) = None
    place_in_stmt p after (Stmt.Goto _) = None
    place_in_stmt p after (Stmt.Gosub _) = None
    place_in_stmt p after (Stmt.Do _ _) = None
    place_in_stmt p after (Stmt.Timer _ _) = None
    place_in_stmt p after Stmt.Trace = None

    -- the place of the label in an item that begins at p: a label stands for what comes next
    pub place_in_item : ℕ → ℕ → Item → Option ℕ
    place_in_item p after (Item.Label name line) = if bytes_eq name label then Some after else None
    place_in_item p after (Item.Step line what) = place_in_stmt p after what

    -- The place of the label in items that begin at p. Behind the last statement comes what stands after them, so a
    -- label at the end of a branch has the place behind the whole choice.
    pub place_in_items : ℕ → ℕ → Items → Option ℕ
    place_in_items p after Items.none = None
    place_in_items p after (Items.next item items) =
        let q = p + item_size item in
        option_or (place_in_item p (if items_steps items then q else after) item)
        (place_in_items q after items)

-- the place of a label of the routine that begins at p; its return stands at the end, for `prog_ende`
abbrev pub label_place : ℕ → Items → List ℕ → ℕ
label_place p body label =
    let end = p + items_size body in
    if bytes_eq label (codes "prog_ende") then end else unwrap_or (place_in_items label p end body) end

-- a routine that begins at p: its items and its return
abbrev pub routine_code : List Entry → ℕ → Items → List Instr
routine_code names p body = items_code names (label_place p body) p body ++ Ret ∷ []

-- the routines one after another, from place p on
abbrev pub routines_code : List Entry → ℕ → List Items → List Instr
routines_code names p [] = []
routines_code names p (body ∷ bodies) =
    routine_code names p body ++ routines_code names (p + items_size body + 1) bodies

-- the bodies of subroutines
abbrev pub bodies_in : List Routine → List Items
bodies_in subs = map (λ r. r.body) (map routine_of subs)

-- the places at which routines begin, from place p on
abbrev pub routine_starts : ℕ → List Items → List ℕ
routine_starts p [] = []
routine_starts p (body ∷ bodies) = p ∷ routine_starts (p + items_size body + 1) bodies
