-- Comparisons of a program whose answer is the same in each pass.
use Rattle.std.specs.Prelude.{ℕ, ℤ, int_lt, Bool, true, false, ◌&&◌, ◌||◌, if◌then◌else◌, List, [], ◌∷◌, ◌++◌, Option, Some, None, flat_map}
use Rattle.std.specs.Ordering.{int_eq}
use Rattle.std.specs.Str.{bytes_eq}
use Rattle.sig_types.specs.declared.kinds.ReadingKind.{ReadingKind}
use Rattle.sig_types.specs.declared.kinds.ReadingKind.TheVariants as reading
use Rattle.vap_ast.specs.declared.name.Entry.{Entry}
use Rattle.vap_ast.specs.declared.tree.BinaryOp.{BinaryOp}
use Rattle.vap_ast.specs.declared.tree.BinaryOp.TheVariants as operator
use Rattle.vap_ast.specs.Syntax.{Expr, Exprs, Item, Items, Stmt}
use Rattle.vap_ast.specs.Tree.{program_of}
use Rattle.vap_check.specs.Names.{bodies}
use Rattle.vap_check.specs.Numbers.{Meant}
use Rattle.program_check.specs.declared.warnings.Meant.TheVariants.{Line}
use Rattle.program_check.specs.declared.warnings.ProgramWarning.{ProgramWarning}
use Rattle.program_check.specs.declared.warnings.ProgramWarning.TheVariants.{ConstantCondition, NeverTrue}
use Rattle.program_check.specs.declared.warnings.Warned.{Warned}
use Rattle.program_check.specs.Calls.{first_known, known_value}
use Rattle.program_check.specs.Counted.{is_kind_of_reading}

-- a warning of the whole line of a statement
abbrev pub of_line : ℕ → ProgramWarning → Warned
of_line line w = record { line = line; meant = Line; warning = w }

-- ---- operators

-- an operator compares two values
abbrev pub is_comparison : BinaryOp → Bool
is_comparison operator.Or = false
is_comparison operator.And = false
is_comparison operator.Eq = true
is_comparison operator.Ne = true
is_comparison operator.Lt = true
is_comparison operator.Le = true
is_comparison operator.Gt = true
is_comparison operator.Ge = true
is_comparison operator.Add = false
is_comparison operator.Sub = false
is_comparison operator.Mul = false
is_comparison operator.Div = false

-- an operator is AND
abbrev pub is_and : BinaryOp → Bool
is_and operator.Or = false
is_and operator.And = true
is_and operator.Eq = false
is_and operator.Ne = false
is_and operator.Lt = false
is_and operator.Le = false
is_and operator.Gt = false
is_and operator.Ge = false
is_and operator.Add = false
is_and operator.Sub = false
is_and operator.Mul = false
is_and operator.Div = false

-- a comparison with a value holds of no less ones
abbrev pub is_lower : BinaryOp → Bool
is_lower operator.Or = false
is_lower operator.And = false
is_lower operator.Eq = true
is_lower operator.Ne = false
is_lower operator.Lt = false
is_lower operator.Le = false
is_lower operator.Gt = true
is_lower operator.Ge = true
is_lower operator.Add = false
is_lower operator.Sub = false
is_lower operator.Mul = false
is_lower operator.Div = false

-- a comparison with a value holds of no greater ones
abbrev pub is_upper : BinaryOp → Bool
is_upper operator.Or = false
is_upper operator.And = false
is_upper operator.Eq = true
is_upper operator.Ne = false
is_upper operator.Lt = true
is_upper operator.Le = true
is_upper operator.Gt = false
is_upper operator.Ge = false
is_upper operator.Add = false
is_upper operator.Sub = false
is_upper operator.Mul = false
is_upper operator.Div = false

-- a value that is no less by the first comparison is above what it is by the second one
abbrev pub are_crossed : BinaryOp → Option ℤ → BinaryOp → Option ℤ → Bool
are_crossed low (Some a) high (Some b) = is_lower low && (is_upper high && int_lt b a)
are_crossed low (Some a) high None = false
are_crossed low None high b = false

-- no value passes both of these comparisons
abbrev pub exclude : BinaryOp → Option ℤ → BinaryOp → Option ℤ → Bool
exclude f a g b = are_crossed f a g b || are_crossed g b f a

-- a comparison of two values that are known
abbrev pub comparison_told : ℕ → BinaryOp → Option ℤ → Option ℤ → List Warned
comparison_told line f (Some a) (Some b) = if is_comparison f then of_line line ConstantCondition ∷ [] else []
comparison_told line f (Some a) None = []
comparison_told line f None b = []

-- ---- expressions

-- the last of the conditions that are joined by AND
abbrev pub last_condition : Expr → Expr
last_condition (Expr.Binary op left right) = if is_and op then last_condition right else Expr.Binary op left right
last_condition (Expr.Literal value) = Expr.Literal value
last_condition (Expr.Name name) = Expr.Name name
last_condition (Expr.Cell array index) = Expr.Cell array index
last_condition (Expr.Unary op arg) = Expr.Unary op arg
last_condition (Expr.Read kind args) = Expr.Read kind args

-- the first of them
abbrev pub first_condition : Expr → Expr
first_condition (Expr.Binary op left right) = if is_and op then first_condition left else Expr.Binary op left right
first_condition (Expr.Literal value) = Expr.Literal value
first_condition (Expr.Name name) = Expr.Name name
first_condition (Expr.Cell array index) = Expr.Cell array index
first_condition (Expr.Unary op arg) = Expr.Unary op arg
first_condition (Expr.Read kind args) = Expr.Read kind args

-- two known values that are one
abbrev pub are_same : Option ℤ → Option ℤ → Bool
are_same (Some a) (Some b) = int_eq a b
are_same (Some a) None = false
are_same None b = false

-- readings of one kind are one, by the known values of their first arguments
abbrev pub is_same_reading : ReadingKind → Option ℤ → Option ℤ → Bool
is_same_reading reading.CycleSecond a b = true
is_same_reading reading.CycleLength a b = true
is_same_reading reading.AnyInterstage a b = true
is_same_reading reading.InterstageActive a b = false
is_same_reading reading.Detection a b = are_same a b
is_same_reading reading.Occupancy a b = are_same a b
is_same_reading reading.Headway a b = are_same a b
is_same_reading reading.FrontEnds a b = are_same a b
is_same_reading reading.RearEnds a b = are_same a b
is_same_reading reading.IsRed a b = are_same a b
is_same_reading reading.IsRedAmber a b = are_same a b
is_same_reading reading.IsGreen a b = are_same a b
is_same_reading reading.IsAmber a b = are_same a b
is_same_reading reading.TGreen a b = are_same a b
is_same_reading reading.TRed a b = are_same a b
is_same_reading reading.StageActive a b = are_same a b
is_same_reading reading.StageDuration a b = are_same a b

-- where names have these meanings
module _ (names : List Entry) where
  -- two expressions are the same name, or the same reading with a known argument
  abbrev pub is_same_value : Expr → Expr → Bool
  is_same_value (Expr.Name a) (Expr.Name b) = bytes_eq a b
  is_same_value (Expr.Read kind args) (Expr.Read other more) =
      is_kind_of_reading kind other && is_same_reading kind (first_known names args) (first_known names more)
  is_same_value a b = false

  -- two conditions compare one value with bounds of which no value keeps both
  abbrev pub are_never_both : Expr → Expr → Bool
  are_never_both (Expr.Binary f a b) (Expr.Binary g c d) =
      is_same_value a c && exclude f (known_value names b) g (known_value names d)
  are_never_both a b = false

  -- two conditions that are joined by AND and never hold at once
  abbrev pub and_told : ℕ → Expr → Expr → List Warned
  and_told line left right =
      if are_never_both (last_condition left) (first_condition right) then of_line line NeverTrue ∷ [] else []

  -- what is told of an operator on two expressions
  abbrev pub operator_told : ℕ → BinaryOp → Expr → Expr → List Warned
  operator_told line f left right =
      if is_and f then and_told line left right
      else comparison_told line f (known_value names left) (known_value names right)

  abbrev mutual
    -- what is told of the conditions in an expression in a statement of this line, each before those in it
    pub expr_told : ℕ → Expr → List Warned
    expr_told line (Expr.Literal value) = []
    expr_told line (Expr.Name name) = []
    expr_told line (Expr.Cell array index) = expr_told line index
    expr_told line (Expr.Unary op arg) = expr_told line arg
    expr_told line (Expr.Binary f left right) =
        operator_told line f left right ++ (expr_told line left ++ expr_told line right)
    expr_told line (Expr.Read kind args) = exprs_told line args

    -- what is told of those in arguments
    pub exprs_told : ℕ → Exprs → List Warned
    exprs_told line Exprs.none = []
    exprs_told line (Exprs.next arg args) = expr_told line arg ++ exprs_told line args

  abbrev mutual
    -- what is told of the conditions in a statement of this line, in the order of the text
    pub stmt_told : ℕ → Stmt → List Warned
    stmt_told line (Stmt.Assign target value) = expr_told line value
    stmt_told line (Stmt.Cell array index value) = expr_told line index ++ expr_told line value
    stmt_told line (Stmt.If test first second) = expr_told line test ++ (items_told first ++ items_told second)
    stmt_told line (Stmt.Goto label) = []
    stmt_told line (Stmt.Gosub sub) = []
    stmt_told line (Stmt.Do kind args) = exprs_told line args
    stmt_told line (Stmt.Timer kind timer) = []
    stmt_told line Stmt.Trace = []

    -- what is told of those in an item
    pub item_told : Item → List Warned
    item_told (Item.Label name line) = []
    item_told (Item.Step line what) = stmt_told line what

    -- what is told of those in a body, in the order of the text
    pub items_told : Items → List Warned
    items_told Items.none = []
    items_told (Items.next item items) = item_told item ++ items_told items

-- the comparisons of known values, and the conditions that never hold at once, in the order of the text
abbrev pub conditions_told : Meant → List Warned
conditions_told m = flat_map (items_told m.names) (bodies (program_of m.tree))
