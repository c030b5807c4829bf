-- The trees of a program as plain data.
use Rattle.std.specs.Prelude.{ℕ, List, ℤ}
use Rattle.sig_types.specs.declared.kinds.ReadingKind.{ReadingKind}
use Rattle.sig_types.specs.declared.kinds.CommandKind.{CommandKind}
use Rattle.sig_types.specs.declared.kinds.TimerKind.{TimerKind}
use Rattle.vap_ast.specs.declared.tree.UnaryOp.{UnaryOp}
use Rattle.vap_ast.specs.declared.tree.BinaryOp.{BinaryOp}

-- an expression; brackets are no part of it
mutual
  pub data Expr : Type 0 where
    Literal : (value : ℤ) → Expr
    Name : (name : List ℕ) → Expr
    Cell : (array : List ℕ) (index : Expr) → Expr
    Unary : (op : UnaryOp) (arg : Expr) → Expr
    Binary : (op : BinaryOp) (left right : Expr) → Expr
    Read : (kind : ReadingKind) (args : Exprs) → Expr

  -- expressions, one after another
  pub data Exprs : Type 0 where
    none : Exprs
    next : (first : Expr) (others : Exprs) → Exprs

-- a label with the line of its name, or a statement with the line of its first token
mutual
  pub data Item : Type 0 where
    Label : (name : List ℕ) (line : ℕ) → Item
    Step : (line : ℕ) (what : Stmt) → Item

  -- a statement; an IF without ELSE has no items there, and `GOTO PROG_ENDE` has the label `prog_ende`
  pub data Stmt : Type 0 where
    Assign : (target : List ℕ) (value : Expr) → Stmt
    Cell : (array : List ℕ) (index value : Expr) → Stmt
    If : (test : Expr) (first second : Items) → Stmt
    Goto : (label : List ℕ) → Stmt
    Gosub : (sub : List ℕ) → Stmt
    Do : (kind : CommandKind) (args : Exprs) → Stmt
    Timer : (kind : TimerKind) (timer : List ℕ) → Stmt
    Trace : Stmt

  -- items, one after another
  pub data Items : Type 0 where
    none : Items
    next : (first : Item) (others : Items) → Items

infixr 5 ◌before◌
-- these items, and then those
abbrev pub ◌before◌ : Items → Items → Items
Items.none before others = others
(Items.next item items) before others = Items.next item (items before others)

-- a subroutine or the main routine, with the line of its name
pub record Routine : Type 0 where
  pub name : List ℕ
  pub line : ℕ
  pub body : Items

-- a declared constant, with the line of its name
pub record Constant : Type 0 where
  pub name : List ℕ
  pub line : ℕ
  pub value : ℤ

-- a declared array, with the line of its name, its declared size and its listed values
pub record Array : Type 0 where
  pub name : List ℕ
  pub line : ℕ
  pub size : ℤ
  pub values : List ℤ

-- the declarations in order, and the main routine
pub record Program : Type 0 where
  pub consts : List Constant
  pub arrays : List Array
  pub subs : List Routine
  pub main : Routine
