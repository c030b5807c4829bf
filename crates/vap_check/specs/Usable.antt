-- What the names in a checked program are good for, by their numbers.
use Rattle.std.specs.Prelude.{◌≡◌, ℕ, ◌<◌, ◌≤◌, List, length, map, Option, None, Some, slice_index_or as get_or}
use Rattle.std.specs.List.{AllByRecursion}
use Rattle.sig_types.specs.Arity.{reading_arity, command_arity}
use Rattle.sig_types.specs.Limits.{most_variables, most_timers, most_arrays, most_array_cells, most_cells, most_subroutines, most_labels}
use Rattle.vap_ast.specs.declared.name.Entry.{Entry}
use Rattle.vap_ast.specs.declared.name.Meaning.{Meaning}
use Rattle.vap_ast.specs.declared.name.Meaning.TheVariants.{Constant, Array, Sub, Timer, Variable}
use Rattle.vap_ast.specs.Names.{meaning_in}
use Rattle.vap_ast.specs.Sound.{count_arguments, IsSound, source_of, Low_items}
use Rattle.vap_ast.specs.Syntax.{Expr, Exprs, Item, Items, Stmt, Program}
use Rattle.vap_check.specs.Names.{variables, timers}
use Rattle.vap_ast.specs.Sizes.{own_size}
use Rattle.vap_check.specs.Accepted.{cells, labels}
use Rattle.vap_check.specs.Numbers.{names_of}

-- where names have these meanings, and these are the numbers of variables, timers and arrays
module _ (names : List Entry) (variables timers arrays : ℕ) where
  -- a constant, or a timer or a variable that is there
  abbrev pub IsValue : Option Meaning → Type 0
  IsValue (Some (Constant value)) = Unit {0}
  IsValue (Some (Timer number)) = number < timers
  IsValue (Some (Variable number)) = number < variables
  IsValue (Some (Array number)) = ⊥
  IsValue (Some (Sub number)) = ⊥
  IsValue None = ⊥

  -- a variable that is there
  abbrev pub IsVariable : Option Meaning → Type 0
  IsVariable (Some (Variable number)) = number < variables
  IsVariable (Some (Constant value)) = ⊥
  IsVariable (Some (Timer number)) = ⊥
  IsVariable (Some (Array number)) = ⊥
  IsVariable (Some (Sub number)) = ⊥
  IsVariable None = ⊥

  -- a timer that is there
  abbrev pub IsTimer : Option Meaning → Type 0
  IsTimer (Some (Timer number)) = number < timers
  IsTimer (Some (Constant value)) = ⊥
  IsTimer (Some (Variable number)) = ⊥
  IsTimer (Some (Array number)) = ⊥
  IsTimer (Some (Sub number)) = ⊥
  IsTimer None = ⊥

  -- an array that is there
  abbrev pub IsArray : Option Meaning → Type 0
  IsArray (Some (Array number)) = number < arrays
  IsArray (Some (Constant value)) = ⊥
  IsArray (Some (Timer number)) = ⊥
  IsArray (Some (Variable number)) = ⊥
  IsArray (Some (Sub number)) = ⊥
  IsArray None = ⊥

  -- the names of an expression are those of values and arrays, and its readings have their arguments
  abbrev mutual
    -- those of this expression
    pub UsableExpr : Expr → Type 0
    UsableExpr (Expr.Literal value) = Unit {0}
    UsableExpr (Expr.Name name) = IsValue (meaning_in names name)
    UsableExpr (Expr.Cell array index) = IsArray (meaning_in names array) × UsableExpr index
    UsableExpr (Expr.Unary op arg) = UsableExpr arg
    UsableExpr (Expr.Binary op left right) = UsableExpr left × UsableExpr right
    UsableExpr (Expr.Read kind args) = (count_arguments args ≡ reading_arity kind) × UsableExprs args

    -- those of these arguments
    pub UsableExprs : Exprs → Type 0
    UsableExprs Exprs.none = Unit {0}
    UsableExprs (Exprs.next arg args) = UsableExpr arg × UsableExprs args

  -- in a routine that may call the first `calls` subroutines
  module _ (calls : ℕ) where
    -- a subroutine that may be called
    abbrev pub IsSub : Option Meaning → Type 0
    IsSub (Some (Sub number)) = number < calls
    IsSub (Some (Constant value)) = ⊥
    IsSub (Some (Timer number)) = ⊥
    IsSub (Some (Variable number)) = ⊥
    IsSub (Some (Array number)) = ⊥
    IsSub None = ⊥

    -- the names of a statement are what it asks for, its commands have their arguments, and it is not too long
    abbrev mutual
      -- those of this statement and its branches
      pub UsableStmt : Stmt → Type 0
      UsableStmt (Stmt.Assign target value) = IsVariable (meaning_in names target) × UsableExpr value
      UsableStmt (Stmt.Cell array index value) = IsArray (meaning_in names array) × (UsableExpr index × UsableExpr value)
      UsableStmt (Stmt.If test first second) = UsableExpr test × (UsableItems first × UsableItems second)
      UsableStmt (Stmt.Goto label) = Unit {0}
      UsableStmt (Stmt.Gosub sub) = IsSub (meaning_in names sub)
      UsableStmt (Stmt.Do kind args) = (count_arguments args ≡ command_arity kind) × UsableExprs args
      UsableStmt (Stmt.Timer kind timer) = IsTimer (meaning_in names timer)
      UsableStmt Stmt.Trace = Unit {0}

      -- those of an item; a label asks for nothing
      pub UsableItem : Item → Type 0
      UsableItem (Item.Label name line) = Unit {0}
      UsableItem (Item.Step line what) = (own_size what ≤ 900) × UsableStmt what

      -- those of each item of a body
      pub UsableItems : Items → Type 0
      UsableItems Items.none = Unit {0}
      UsableItems (Items.next item items) = UsableItem item × UsableItems items

-- no limit is passed
pub record Few (p : Program) : Type 0 where
  pub variables : length (variables p) ≤ most_variables
  pub timers : length (timers p) ≤ most_timers
  pub arrays : length p.arrays ≤ most_arrays
  pub cells : cells p ≤ most_cells
  pub subs : length p.subs ≤ most_subroutines
  pub labels : labels p ≤ most_labels

-- No limit is passed, arrays have 1 to 1,024 cells, names can be used as they are, each subroutine calls those above it
-- alone, and no statement is too long.
pub record Usable (p : Program) : Type 0 where
  pub few : Few p
  pub sized : AllByRecursion (λ a. (1 ≤ length a.values) × (length a.values ≤ most_array_cells)) p.arrays
  pub subs : (k : ℕ) → k < length p.subs →
      UsableItems (names_of p) (length (variables p)) (length (timers p)) (length p.arrays) k
      (get_or (map (λ r. r.body) p.subs) k Items.none)
  pub main : UsableItems (names_of p) (length (variables p)) (length (timers p)) (length p.arrays) (length p.subs) p.main.body

-- What the meaning of a program asks of it: arguments by the numbers of their words, calls of subroutines that are there,
-- and expressions that leave room for their operands.
pub record Runs (p : Program) : Type 0 where
  pub sound : IsSound (source_of p (names_of p))
  pub subs_low : (k : ℕ) → k < length p.subs → Low_items (get_or (map (λ r. r.body) p.subs) k Items.none)
  pub main_low : Low_items p.main.body
