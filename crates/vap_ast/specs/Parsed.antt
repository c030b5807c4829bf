-- What a tree that was read from a text keeps, whatever it means: its lines, how deep IF nests, and room for operands.
use Rattle.std.specs.Prelude.{ℕ, ◌+◌, ◌-◌, ◌<◌, ◌≤◌, max}
use Rattle.std.specs.List.{All}
use Rattle.vap_ast.specs.Syntax.{Expr, Exprs, Item, Items, Stmt, Routine, Program}

-- the operands that stand at most while an expression is computed, its value included, where of all arguments at most
-- one stands beside the one that is computed
abbrev mutual
  -- the operands that an expression keeps
  pub room : Expr → ℕ
  room (Expr.Literal v) = 1
  room (Expr.Name name) = 1
  room (Expr.Cell array index) = room index
  room (Expr.Unary op arg) = room arg
  room (Expr.Binary op left right) = max (room left) (1 + room right)
  room (Expr.Read kind args) = 1 + room_of_all args

  -- the operands that arguments keep
  pub room_of_all : Exprs → ℕ
  room_of_all Exprs.none = 0
  room_of_all (Exprs.next arg args) = max (room arg) (room_of_all args)

-- An expression's brackets and signs nest 32 deep at most, and each level keeps at most six operands.
abbrev pub Fits : Expr → Type 0
Fits e = room e ≤ 198

-- each of these arguments keeps at most as many operands
abbrev pub FitAll : Exprs → Type 0
FitAll args = room_of_all args ≤ 198

-- a line of a text of `most` lines, which count from 1
abbrev pub IsLine : ℕ → ℕ → Type 0
IsLine most line = (1 ≤ line) × (line ≤ most)

-- Statements, items and bodies of a text of `most` lines; the number that each takes first is how many more IF may nest in
-- it.
module _ (most : ℕ) where
  abbrev mutual
    -- a statement, in whose branches `ifs` more IF may nest
    pub ParsedStmt : ℕ → Stmt → Type 0
    ParsedStmt ifs (Stmt.Assign target value) = Fits value
    ParsedStmt ifs (Stmt.Cell array index value) = Fits index × Fits value
    ParsedStmt ifs (Stmt.If test first second) =
        Fits test × (0 < ifs) × ParsedItems (ifs - 1) first × ParsedItems (ifs - 1) second
    ParsedStmt ifs (Stmt.Goto label) = Unit {0}
    ParsedStmt ifs (Stmt.Gosub sub) = Unit {0}
    ParsedStmt ifs (Stmt.Do kind args) = FitAll args
    ParsedStmt ifs (Stmt.Timer kind timer) = Unit {0}
    ParsedStmt ifs Stmt.Trace = Unit {0}

    -- a label or a statement, with its line
    pub ParsedItem : ℕ → Item → Type 0
    ParsedItem ifs (Item.Label name line) = IsLine most line
    ParsedItem ifs (Item.Step line what) = IsLine most line × ParsedStmt ifs what

    -- each item of a body
    pub ParsedItems : ℕ → Items → Type 0
    ParsedItems ifs Items.none = Unit {0}
    ParsedItems ifs (Items.next item items) = ParsedItem ifs item × ParsedItems ifs items

  -- a routine of a text of `most` lines, in which 100 IF may nest
  pub record ParsedRoutine (r : Routine) : Type 0 where
    pub line : IsLine most r.line
    pub body : ParsedItems 100 r.body

-- the tree of a text of at most `most` lines
pub record Parsed (most : ℕ) (p : Program) : Type 0 where
  pub consts : All (λ c. IsLine most c.line) p.consts
  pub arrays : All (λ a. IsLine most a.line) p.arrays
  pub subs : All (λ r. ParsedRoutine most r) p.subs
  pub main : ParsedRoutine most p.main
