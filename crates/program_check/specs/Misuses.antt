-- Arguments, indexes, divisors and targets that are mostly meant otherwise.
use Rattle.std.specs.Prelude.{ℕ, ℤ, pos, int_le, Bool, true, false, not, ◌&&◌, ◌||◌, if◌then◌else◌, codes}
use Rattle.std.specs.Prelude.{List, [], ◌∷◌, ◌++◌, find, flat_map, Option, Some, None, is_some}
use Rattle.std.specs.List.{list_any}
use Rattle.std.specs.Option.{option_map}
use Rattle.std.specs.Ordering.{int_eq}
use Rattle.std.specs.Str.{bytes_eq}
use Rattle.sig_types.specs.Text.{same_name}
use Rattle.sig_types.specs.declared.kinds.CommandKind.TheVariants as command
use Rattle.pua_model.specs.Plan.{PlanOf, group_named}
use Rattle.vap_ast.specs.declared.name.Entry.{Entry}
use Rattle.vap_ast.specs.declared.tree.BinaryOp.{BinaryOp}
use Rattle.vap_ast.specs.declared.tree.BinaryOp.TheVariants as operator
use Rattle.vap_ast.specs.Names.{meaning_in}
use Rattle.vap_ast.specs.Syntax.{Array, Expr, Exprs, Item, Items, Stmt}
use Rattle.vap_ast.specs.Tree.{program_of}
use Rattle.vap_check.specs.Names.{bodies}
use Rattle.vap_check.specs.Numbers.{Meant}
use Rattle.program_check.specs.declared.calls.CallKind.{CallKind}
use Rattle.program_check.specs.declared.calls.CallKind.TheVariants.{Command, Reading}
use Rattle.program_check.specs.declared.calls.Named.{Named}
use Rattle.program_check.specs.declared.calls.Named.TheVariants as named
use Rattle.program_check.specs.declared.uses.Sort.TheVariants as sort
use Rattle.program_check.specs.declared.warnings.Meant.TheVariants.{First, Line, Name}
use Rattle.program_check.specs.declared.warnings.PlanPart.{PlanPart}
use Rattle.program_check.specs.declared.warnings.PlanPart.TheVariants as part
use Rattle.program_check.specs.declared.warnings.ProgramWarning.TheVariants.{NameAsNumber, ConstantArgument, ConstantIndex}
use Rattle.program_check.specs.declared.warnings.ProgramWarning.TheVariants.{DivisionByZero, CycleNameAssigned}
use Rattle.program_check.specs.declared.warnings.Warned.{Warned}
use Rattle.program_check.specs.Calls.{first_known, known_value}
use Rattle.program_check.specs.Counted.{is_command}
use Rattle.program_check.specs.Kinds.{named_by}
use Rattle.program_check.specs.Names.{is_of}

-- ---- names in the place of numbers

-- a signal group of the plan has this name, in any case
abbrev pub is_group_name : Option PlanOf → List ℕ → Bool
is_group_name None name = false
is_group_name (Some plan) name = is_some (group_named plan name)

-- there is a plan, and one of these names of its stages is this one, in any case
abbrev pub is_stage_name : Option PlanOf → List (List ℕ) → List ℕ → Bool
is_stage_name None stages name = false
is_stage_name (Some plan) stages name = list_any (λ s. same_name s name) stages

-- a group of this name in the place of its number
abbrev pub group_by_name : Bool → Option PlanPart
group_by_name is = if is then Some part.Group else None

-- a stage of this name in the place of its number
abbrev pub stage_by_name : Bool → Option PlanPart
stage_by_name is = if is then Some part.Stage else None

-- the part of the plan that has this name and is of the kind that numbers here name
abbrev pub part_named : Option PlanOf → List (List ℕ) → Named → List ℕ → Option PlanPart
part_named plan stages named.Group name = group_by_name (is_group_name plan name)
part_named plan stages named.Stage name = stage_by_name (is_stage_name plan stages name)
part_named plan stages named.Interstage name = stage_by_name (is_stage_name plan stages name)
part_named plan stages named.Detector name = None
part_named plan stages named.Nothing name = None

-- the warning of a name that is that of a part of the plan
abbrev pub part_told : ℕ → List ℕ → Option PlanPart → List Warned
part_told line name None = []
part_told line name (Some what) = record { line = line; meant = Name; warning = NameAsNumber what name } ∷ []

-- ---- numbers out of their range

-- a number of seconds that `Set_cycle` takes
abbrev pub is_cycle_length : ℤ → Bool
is_cycle_length n = int_le (pos 0) n && int_le n (pos 9999)

-- the warning of a known number of seconds that `Set_cycle` doesn't take
abbrev pub length_told : ℕ → CallKind → Option ℤ → List Warned
length_told line kind None = []
length_told line kind (Some n) =
    if is_cycle_length n then [] else record { line = line; meant = First kind n; warning = ConstantArgument n } ∷ []

-- the size of the array of this name
abbrev pub size_in : List Array → List ℕ → Option ℤ
size_in arrays name = option_map (λ a. a.size) (find (λ a. bytes_eq a.name name) arrays)

-- a number of a cell of an array of this size; cells are counted from 1
abbrev pub is_cell : ℤ → ℤ → Bool
is_cell size i = int_le (pos 1) i && int_le i size

-- the warning of a known number that is no cell of an array of this size
abbrev pub cell_told : ℕ → List ℕ → Option ℤ → Option ℤ → List Warned
cell_told line array (Some size) (Some i) =
    if is_cell size i then [] else record { line = line; meant = Name; warning = ConstantIndex i array } ∷ []
cell_told line array (Some size) None = []
cell_told line array None i = []

-- an operator divides
abbrev pub is_division : BinaryOp → Bool
is_division operator.Or = false
is_division operator.And = false
is_division operator.Eq = false
is_division operator.Ne = false
is_division operator.Lt = false
is_division operator.Le = false
is_division operator.Gt = false
is_division operator.Ge = false
is_division operator.Add = false
is_division operator.Sub = false
is_division operator.Mul = false
is_division operator.Div = true

-- a known number is 0
abbrev pub is_zero : Option ℤ → Bool
is_zero None = false
is_zero (Some n) = int_eq n (pos 0)

-- the warning of a division by a known 0
abbrev pub divisor_told : ℕ → BinaryOp → Option ℤ → List Warned
divisor_told line op divisor =
    if is_division op && is_zero divisor then record { line = line; meant = Line; warning = DivisionByZero } ∷ [] else []

-- ---- the words of the cycle

-- a word that reads the cycle where nothing assigns it
abbrev pub is_cycle_word : List ℕ → Bool
is_cycle_word name = bytes_eq name (codes "t") || bytes_eq name (codes "tc")

-- the warning of such a word that is assigned
abbrev pub target_told : ℕ → List ℕ → List Warned
target_told line name =
    if is_cycle_word name then record { line = line; meant = Name; warning = CycleNameAssigned name } ∷ [] else []

-- ---- in a program

-- where names have these meanings, and these are the plan and the names of its stages
module _ (names : List Entry) (plan : Option PlanOf) (stages : List (List ℕ)) where
  -- the warning of an argument of a kind of numbers that is a variable, and has the name of a part of the plan
  abbrev pub argument_told : ℕ → Named → Expr → List Warned
  argument_told line kind (Expr.Literal value) = []
  argument_told line kind (Expr.Name name) =
      if is_of sort.Variable (meaning_in names name) then part_told line name (part_named plan stages kind name) else []
  argument_told line kind (Expr.Cell array index) = []
  argument_told line kind (Expr.Unary op arg) = []
  argument_told line kind (Expr.Binary op left right) = []
  argument_told line kind (Expr.Read reading args) = []

  -- the warnings of all arguments of a kind
  abbrev pub arguments_told : ℕ → Named → Exprs → List Warned
  arguments_told line kind Exprs.none = []
  arguments_told line kind (Exprs.next arg args) = argument_told line kind arg ++ arguments_told line kind args

  -- the warnings of a command or a reading with these arguments
  abbrev pub call_told : ℕ → CallKind → Exprs → List Warned
  call_told line kind args =
      arguments_told line (named_by kind) args
      ++ (if is_command command.SetCycle kind then length_told line kind (first_known names args) else [])

-- the warning of a cell with this index, where names have these meanings and arrays are declared so
abbrev pub index_told : List Entry → List Array → ℕ → List ℕ → Expr → List Warned
index_told names arrays line array index = cell_told line array (size_in arrays array) (known_value names index)

-- where names have these meanings, arrays are declared so, and these are the plan and the names of its stages
module _ (names : List Entry) (arrays : List Array) (plan : Option PlanOf) (stages : List (List ℕ)) where
  abbrev mutual
    -- the warnings of an expression in a statement of this line, each before those in it
    pub expr_misuses : ℕ → Expr → List Warned
    expr_misuses line (Expr.Literal value) = []
    expr_misuses line (Expr.Name name) = []
    expr_misuses line (Expr.Cell array index) = index_told names arrays line array index ++ expr_misuses line index
    expr_misuses line (Expr.Unary op arg) = expr_misuses line arg
    expr_misuses line (Expr.Binary op left right) =
        divisor_told line op (known_value names right) ++ (expr_misuses line left ++ expr_misuses line right)
    expr_misuses line (Expr.Read kind args) = call_told names plan stages line (Reading kind) args ++ exprs_misuses line args

    -- those of arguments
    pub exprs_misuses : ℕ → Exprs → List Warned
    exprs_misuses line Exprs.none = []
    exprs_misuses line (Exprs.next arg args) = expr_misuses line arg ++ exprs_misuses line args

  abbrev mutual
    -- the warnings of a statement of this line, in the order of the text
    pub stmt_misuses : ℕ → Stmt → List Warned
    stmt_misuses line (Stmt.Assign target value) = target_told line target ++ expr_misuses line value
    stmt_misuses line (Stmt.Cell array index value) =
        index_told names arrays line array index ++ (expr_misuses line index ++ expr_misuses line value)
    stmt_misuses line (Stmt.If test first second) = expr_misuses line test ++ (items_misuses first ++ items_misuses second)
    stmt_misuses line (Stmt.Goto label) = []
    stmt_misuses line (Stmt.Gosub sub) = []
    stmt_misuses line (Stmt.Do kind args) = call_told names plan stages line (Command kind) args ++ exprs_misuses line args
    stmt_misuses line (Stmt.Timer kind timer) = []
    stmt_misuses line Stmt.Trace = []

    -- those of an item
    pub item_misuses : Item → List Warned
    item_misuses (Item.Label name line) = []
    item_misuses (Item.Step line what) = stmt_misuses line what

    -- those of a body, in the order of the text
    pub items_misuses : Items → List Warned
    items_misuses Items.none = []
    items_misuses (Items.next item items) = item_misuses item ++ items_misuses items

-- The names in the place of numbers, the known numbers that are out of their range, the divisions by a known 0, and the words of the
-- cycle that are assigned, in the order of the text: of a program with this plan and these names of its stages.
abbrev pub misuses : Meant → Option PlanOf → List (List ℕ) → List Warned
misuses m plan stages =
    flat_map (items_misuses m.names (program_of m.tree).arrays plan stages) (bodies (program_of m.tree))
