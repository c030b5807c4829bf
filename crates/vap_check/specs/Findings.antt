-- What is wrong with a program.
use Rattle.std.specs.Prelude.{ℕ, Bool, true, false, not, ◌||◌, ◌&&◌, ◌==◌, nat_lt, nat_le, max, ℤ, pos, negsuc, List, [], ◌∷◌, ◌++◌, length, Option, None, Some, if◌then◌else◌, codes}
use Rattle.sig_types.specs.Arity.{reading_arity, command_arity}
use Rattle.sig_types.specs.Limits.{most_array_cells}
use Rattle.std.specs.Str.{bytes_eq}
use Rattle.vap_ast.specs.Syntax.{Expr, Exprs, Item, Items, Stmt, Routine, Constant, Array, Program}
use Rattle.vap_ast.specs.Sizes.{own_size}
use Rattle.vap_ast.specs.Sound.{count_arguments}
use Rattle.vap_check.specs.declared.refusal.CheckWhy.TheVariants.{ConstTwice, NameKind, LabelTwice, NoLabel, SubTwice, NoSub, ArraySize, AssignConst, Arity, StatementTooLong}
use Rattle.vap_check.specs.declared.finding.Finding.{Finding}
use Rattle.vap_check.specs.declared.kinds.Kind.{Kind}
use Rattle.vap_check.specs.declared.kinds.Kind.TheVariants as kind
use Rattle.vap_check.specs.FirstFinding.{when}
use Rattle.vap_check.specs.Names.{among, with_name, Labelled, items_labels, label_names, const_names, array_names, sub_names, kind_of}

-- ---- what a use asks of the kind of a name

-- an array or a subroutine read as a plain name
abbrev pub is_misread : Kind → Bool
is_misread kind.Array = true
is_misread kind.Sub = true
is_misread kind.Constant = false
is_misread kind.Timer = false
is_misread kind.Variable = false

-- a name with an index that is no array
abbrev pub is_no_array : Kind → Bool
is_no_array kind.Array = false
is_no_array kind.Sub = true
is_no_array kind.Constant = true
is_no_array kind.Timer = true
is_no_array kind.Variable = true

-- a timer command that names something else
abbrev pub is_no_timer : Kind → Bool
is_no_timer kind.Array = true
is_no_timer kind.Sub = true
is_no_timer kind.Constant = true
is_no_timer kind.Timer = false
is_no_timer kind.Variable = false

-- an assignment to something that isn't a variable
abbrev pub assign_findings : Kind → ℕ → List Finding
assign_findings kind.Constant line = when true line AssignConst
assign_findings kind.Array line = when true line NameKind
assign_findings kind.Sub line = when true line NameKind
assign_findings kind.Timer line = when true line NameKind
assign_findings kind.Variable line = []

-- ---- statements

-- where a name has the kind that `kind` tells
module _ (kind : List ℕ → Kind) where
  abbrev mutual
    -- what is wrong with an expression in a statement of this line
    pub expr_findings : ℕ → Expr → List Finding
    expr_findings line (Expr.Literal value) = []
    expr_findings line (Expr.Name name) = when (is_misread (kind name)) line NameKind
    expr_findings line (Expr.Cell array index) = when (is_no_array (kind array)) line NameKind ++ expr_findings line index
    expr_findings line (Expr.Unary op arg) = expr_findings line arg
    expr_findings line (Expr.Binary op left right) = expr_findings line left ++ expr_findings line right
    expr_findings line (Expr.Read word args) =
        when (not (count_arguments args == reading_arity word)) line Arity ++ exprs_findings line args

    -- what is wrong with arguments in a statement of this line
    pub exprs_findings : ℕ → Exprs → List Finding
    exprs_findings line Exprs.none = []
    exprs_findings line (Exprs.next arg args) = expr_findings line arg ++ exprs_findings line args

  -- in a routine in which these names may be called, and these labels stand
  module _ (calls labels : List ℕ → Bool) where
    abbrev mutual
      -- what is wrong with a statement of this line
      pub stmt_findings : ℕ → Stmt → List Finding
      stmt_findings line (Stmt.Assign target value) = assign_findings (kind target) line ++ expr_findings line value
      stmt_findings line (Stmt.Cell array index value) =
          when (is_no_array (kind array)) line NameKind ++ (expr_findings line index ++ expr_findings line value)
      stmt_findings line (Stmt.If test first second) = expr_findings line test ++ (items_findings first ++ items_findings second)
      stmt_findings line (Stmt.Goto label) = when (not (bytes_eq label (codes "prog_ende") || labels label)) line NoLabel
      stmt_findings line (Stmt.Gosub sub) = when (not (calls sub)) line NoSub
      stmt_findings line (Stmt.Do word args) =
          when (not (count_arguments args == command_arity word)) line Arity ++ exprs_findings line args
      stmt_findings line (Stmt.Timer word timer) = when (is_no_timer (kind timer)) line NameKind
      stmt_findings line Stmt.Trace = []

      -- what is wrong with an item: a label is right here, a statement may also be too long
      pub item_findings : Item → List Finding
      item_findings (Item.Label name line) = []
      item_findings (Item.Step line what) = when (nat_lt 900 (own_size what)) line StatementTooLong ++ stmt_findings line what

      -- what is wrong with the items of a body, in the order of the text
      pub items_findings : Items → List Finding
      items_findings Items.none = []
      items_findings (Items.next item items) = item_findings item ++ items_findings items

-- ---- routines

-- the labels whose name stands before, where these names stand before the first
abbrev pub label_findings : List (List ℕ) → List Labelled → List Finding
label_findings before [] = []
label_findings before (l ∷ ls) = when (among before l.name) l.line LabelTwice ++ label_findings (with_name before l.name) ls

-- what is wrong with a body in which these names may be called
abbrev pub body_findings : (List ℕ → Kind) → List (List ℕ) → Items → List Finding
body_findings kind above body =
    label_findings [] (items_labels body) ++ items_findings kind (among above) (among (label_names body)) body

-- what is wrong with the subroutines, where the names `above` are those of the subroutines above the first
abbrev pub subs_findings : (List ℕ → Kind) → (List ℕ → Bool) → List (List ℕ) → List Routine → List Finding
subs_findings kind taken above [] = []
subs_findings kind taken above (r ∷ rs) =
    when (among above r.name) r.line SubTwice ++ (when (taken r.name) r.line NameKind
    ++ (body_findings kind above r.body ++ subs_findings kind taken (with_name above r.name) rs))

-- ---- declarations

-- the constants whose name stands before
abbrev pub const_findings : List (List ℕ) → List Constant → List Finding
const_findings before [] = []
const_findings before (c ∷ cs) = when (among before c.name) c.line ConstTwice ++ const_findings (with_name before c.name) cs

-- the line of the first constant of this name
abbrev pub const_line : List Constant → List ℕ → Option ℕ
const_line [] name = None
const_line (c ∷ cs) name = if bytes_eq name c.name then Some c.line else const_line cs name

-- An array with the name of a constant whose first declaration has this line: the later of the two is wrong.
abbrev pub clash_findings : Option ℕ → ℕ → List Finding
clash_findings None line = []
clash_findings (Some other) line = when true (max other line) NameKind

-- whether an array's size isn't 1 to the most cells of an array, or isn't the number of its values
abbrev pub is_odd_size : ℤ → List ℤ → Bool
is_odd_size (pos n) values = not (nat_lt 0 n && nat_le n most_array_cells && n == length values)
is_odd_size (negsuc n) values = true

-- what is wrong with the arrays, where the line of the first constant of a name is known
abbrev pub array_findings : (List ℕ → Option ℕ) → List (List ℕ) → List Array → List Finding
array_findings line_of before [] = []
array_findings line_of before (a ∷ others) =
    when (among before a.name) a.line NameKind ++ (clash_findings (line_of a.name) a.line
    ++ (when (is_odd_size a.size a.values) a.line ArraySize ++ array_findings line_of (with_name before a.name) others))

-- ---- programs

-- whether a name is declared as a constant or an array
abbrev pub is_declared : Program → List ℕ → Bool
is_declared p name = among (const_names p) name || among (array_names p) name

-- all that is wrong with a program, but for limits
abbrev pub findings : Program → List Finding
findings p =
    const_findings [] p.consts ++ (array_findings (const_line p.consts) [] p.arrays
    ++ (subs_findings (kind_of p) (is_declared p) [] p.subs ++ body_findings (kind_of p) (sub_names p) p.main.body))
