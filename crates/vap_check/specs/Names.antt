-- The names that a program declares, its labels and the names that it uses.
use Rattle.std.specs.Prelude.{ℕ, Bool, if◌then◌else◌, List, [], ◌∷◌, ◌++◌, map, filter, fold, flat_map}
use Rattle.std.specs.List.{list_any}
use Rattle.std.specs.Str.{bytes_eq}
use Rattle.vap_ast.specs.Syntax.{Expr, Exprs, Item, Items, Stmt, Program}
use denote.Enum.Bare.{sameb}
use Rattle.vap_check.specs.contracts.kinds.Kind.{the_type}
use Rattle.vap_check.specs.declared.kinds.Kind.{Kind}
use Rattle.vap_check.specs.declared.kinds.Kind.TheVariants as kind

-- whether a name is one of these
abbrev pub among : List (List ℕ) → List ℕ → Bool
among names name = list_any (bytes_eq name) names

-- these names, and then this one unless it is among them
abbrev pub with_name : List (List ℕ) → List ℕ → List (List ℕ)
with_name names name = if among names name then names else names ++ name ∷ []

-- these names, and then the others, each once, in the order in which they come first
abbrev pub with_names : List (List ℕ) → List (List ℕ) → List (List ℕ)
with_names = fold with_name

-- these names, each once, in the order in which they come first
abbrev pub distinct : List (List ℕ) → List (List ℕ)
distinct names = with_names [] names

-- ---- labels

-- a label with its line
pub record Labelled : Type 0 where
  pub name : List ℕ
  pub line : ℕ

abbrev mutual
  -- the labels in the branches of a statement, in the order of the text
  pub stmt_labels : Stmt → List Labelled
  stmt_labels (Stmt.If test first second) = items_labels first ++ items_labels second
  stmt_labels (Stmt.Assign target value) = []
  stmt_labels (Stmt.Cell array index value) = []
  stmt_labels (Stmt.Goto label) = []
  stmt_labels (Stmt.Gosub sub) = []
  stmt_labels (Stmt.Do kind args) = []
  stmt_labels (Stmt.Timer kind timer) = []
  stmt_labels Stmt.Trace = []

  -- the label that an item is, or those in its branches
  pub item_labels : Item → List Labelled
  item_labels (Item.Label name line) = record { name = name; line = line } ∷ []
  item_labels (Item.Step line what) = stmt_labels what

  -- the labels of a body, in the order of the text
  pub items_labels : Items → List Labelled
  items_labels Items.none = []
  items_labels (Items.next item items) = item_labels item ++ items_labels items

-- the names of the labels of a body
abbrev pub label_names : Items → List (List ℕ)
label_names body = map (λ l. l.name) (items_labels body)

-- ---- timers

abbrev mutual
  -- the names in timer commands, in the order of the text
  pub stmt_timers : Stmt → List (List ℕ)
  stmt_timers (Stmt.Timer kind timer) = timer ∷ []
  stmt_timers (Stmt.If test first second) = items_timers first ++ items_timers second
  stmt_timers (Stmt.Assign target value) = []
  stmt_timers (Stmt.Cell array index value) = []
  stmt_timers (Stmt.Goto label) = []
  stmt_timers (Stmt.Gosub sub) = []
  stmt_timers (Stmt.Do kind args) = []
  stmt_timers Stmt.Trace = []

  -- the names in the timer commands of an item
  pub item_timers : Item → List (List ℕ)
  item_timers (Item.Label name line) = []
  item_timers (Item.Step line what) = stmt_timers what

  -- the names in the timer commands of a body
  pub items_timers : Items → List (List ℕ)
  items_timers Items.none = []
  items_timers (Items.next item items) = item_timers item ++ items_timers items

-- ---- uses

abbrev mutual
  -- the names that an expression reads, in the order of the text; arrays are no part of them
  pub expr_uses : Expr → List (List ℕ)
  expr_uses (Expr.Literal value) = []
  expr_uses (Expr.Name name) = name ∷ []
  expr_uses (Expr.Cell array index) = expr_uses index
  expr_uses (Expr.Unary op arg) = expr_uses arg
  expr_uses (Expr.Binary op left right) = expr_uses left ++ expr_uses right
  expr_uses (Expr.Read kind args) = exprs_uses args

  -- the names that arguments read
  pub exprs_uses : Exprs → List (List ℕ)
  exprs_uses Exprs.none = []
  exprs_uses (Exprs.next arg args) = expr_uses arg ++ exprs_uses args

abbrev mutual
  -- the names that a statement assigns, reads or commands as timers
  pub stmt_uses : Stmt → List (List ℕ)
  stmt_uses (Stmt.Assign target value) = target ∷ expr_uses value
  stmt_uses (Stmt.Cell array index value) = expr_uses index ++ expr_uses value
  stmt_uses (Stmt.If test first second) = expr_uses test ++ (items_uses first ++ items_uses second)
  stmt_uses (Stmt.Goto label) = []
  stmt_uses (Stmt.Gosub sub) = []
  stmt_uses (Stmt.Do kind args) = exprs_uses args
  stmt_uses (Stmt.Timer kind timer) = timer ∷ []
  stmt_uses Stmt.Trace = []

  -- the names that an item assigns, reads or commands as timers
  pub item_uses : Item → List (List ℕ)
  item_uses (Item.Label name line) = []
  item_uses (Item.Step line what) = stmt_uses what

  -- the names that a body assigns, reads or commands as timers, in the order of the text
  pub items_uses : Items → List (List ℕ)
  items_uses Items.none = []
  items_uses (Items.next item items) = item_uses item ++ items_uses items

-- ---- a program

-- the bodies of all routines in the order of the text: the subroutines, and then the main routine
abbrev pub bodies : Program → List Items
bodies p = map (λ r. r.body) p.subs ++ p.main.body ∷ []

-- the names of the declared constants, in their order
abbrev pub const_names : Program → List (List ℕ)
const_names p = map (λ c. c.name) p.consts

-- the names of the declared arrays, in their order
abbrev pub array_names : Program → List (List ℕ)
array_names p = map (λ a. a.name) p.arrays

-- the names of the subroutines, in their order
abbrev pub sub_names : Program → List (List ℕ)
sub_names p = map (λ r. r.name) p.subs

-- the names in timer commands
abbrev pub timer_names : Program → List (List ℕ)
timer_names p = flat_map items_timers (bodies p)

-- the names that the routines assign, read or command as timers, in the order of the text
abbrev pub uses : Program → List (List ℕ)
uses p = flat_map items_uses (bodies p)

-- the kind of a name among these constants, arrays, subroutines and names in timer commands
abbrev pub kind_among : (consts arrays subs timers : List (List ℕ)) → List ℕ → Kind
kind_among consts arrays subs timers name =
    if among consts name then kind.Constant
    else if among arrays name then kind.Array
    else if among subs name then kind.Sub
    else if among timers name then kind.Timer
    else kind.Variable

-- What a name is. Where it is declared as more than one kind, which is refused, the first in this order stands, as it is
-- in the text: subroutines are declared after the others, and names are used after all declarations of the others.
abbrev pub kind_of : Program → List ℕ → Kind
kind_of p = kind_among (const_names p) (array_names p) (sub_names p) (timer_names p)

-- ---- numbers

-- whether a kind is this one
abbrev pub is_kind : Kind → Kind → Bool
is_kind = sameb the_type

-- the timers in order of first use
abbrev pub timers : Program → List (List ℕ)
timers p = distinct (filter (λ n. is_kind kind.Timer (kind_of p n)) (uses p))

-- the variables in order of first use
abbrev pub variables : Program → List (List ℕ)
variables p = distinct (filter (λ n. is_kind kind.Variable (kind_of p n)) (uses p))
