-- How many instructions the parts of a program have: as many as their sizes.
use Rattle.std.proofs.Common.{◌≡◌, ℕ, ◌+◌, List, [], ◌∷◌, ◌++◌, length, refl, arith, length-append}
use Rattle.vap_ast.specs.declared.name.Entry.{Entry}
use Rattle.vap_ast.specs.Mean.{variable_number}
use Rattle.vap_ast.specs.Names.{meaning_in}
use Rattle.vap_ast.specs.Sizes.{expr_size, exprs_size, stmt_size, item_size, items_size}
use Rattle.vap_ast.specs.Syntax.{Expr, Exprs, Item, Items, Stmt}
use Rattle.vap_ast.specs.Value.{array_number}
use Rattle.vap_check.specs.Accepted.{bodies_size}
use Rattle.vap_code.specs.declared.Instr.TheVariants.{Store, Cell, SetCell, Read, Do, Jump, JumpZero, Ret}
use Rattle.vap_compile.specs.Layout.{expr_code, exprs_code, binary_instr, unary_instr, stmt_code, item_code, items_code, routine_code, routines_code, label_place}

module _ (names : List Entry) where
  mutual
    pub expr_length : (e : Expr) → length (expr_code names e) ≡ expr_size e
    expr_length (Expr.Literal v) = refl
    expr_length (Expr.Name name) = refl
    expr_length (Expr.Cell array index) =
        omega (
          arith,
          length-append (expr_code names index)
              (Cell (array_number (meaning_in names array)) ∷ []),
          expr_length index,
        )
    expr_length (Expr.Unary op arg) =
        omega (arith, length-append (expr_code names arg) (unary_instr op ∷ []), expr_length arg)
    expr_length (Expr.Binary op left right) =
        omega (
          arith,
          length-append (expr_code names left)
              (expr_code names right ++ binary_instr op ∷ []),
          length-append (expr_code names right)
              (binary_instr op ∷ []),
          expr_length left,
          expr_length right,
        )
    expr_length (Expr.Read kind args) =
        omega (arith, length-append (exprs_code names args) (Read kind ∷ []), exprs_length args)

    pub exprs_length : (args : Exprs) → length (exprs_code names args) ≡ exprs_size args
    exprs_length Exprs.none = refl
    exprs_length (Exprs.next arg args) =
        omega (
          arith,
          length-append (expr_code names arg) (exprs_code names args),
          expr_length arg,
          exprs_length args,
        )

module _ (names : List Entry) (labels : List ℕ → ℕ) where
  mutual
    pub stmt_length : (p line : ℕ) (what : Stmt)
        → length (stmt_code names labels p line what) ≡ stmt_size what
    stmt_length p line (Stmt.Assign name e) =
        omega (
          arith,
          length-append (expr_code names e)
              (Store (variable_number (meaning_in names name)) ∷ []),
          expr_length names e,
        )
    stmt_length p line (Stmt.Cell name i e) =
        let a = array_number (meaning_in names name) in
        omega (
          arith,
          length-append (expr_code names i) (expr_code names e ++ SetCell a ∷ []),
          length-append (expr_code names e) (SetCell a ∷ []),
          expr_length names e,
          expr_length names
              i,
        )
    stmt_length p line (Stmt.If test first second) =
        let at_first = p + expr_size test + 2 in
        let at_second = at_first + items_size first + 1 in
        let a = items_code names labels at_first first in
        let b = items_code names labels at_second second in
        let to_end = at_second + items_size second in
        omega (
          arith,
          length-append (expr_code names test)
              (JumpZero at_second ∷ (a ++ (Jump to_end ∷ b))),
          length-append a (Jump to_end ∷ b),
          expr_length names test,
          items_length at_first first,
          items_length at_second second,
        )
    stmt_length p line (Stmt.Goto label) = refl
    stmt_length p line (Stmt.Gosub name) = refl
    stmt_length p line (Stmt.Do kind args) =
        omega (arith, length-append (exprs_code names args) (Do kind ∷ []), exprs_length names args)
    stmt_length p line (Stmt.Timer kind name) = refl
    stmt_length p line Stmt.Trace = refl

    pub item_length : (p : ℕ) (item : Item) → length (item_code names labels p item) ≡ item_size item
    item_length p (Item.Label name line) = refl
    item_length p (Item.Step line what) = stmt_length p line what

    pub items_length : (p : ℕ) (items : Items) → length (items_code names labels p items) ≡ items_size items
    items_length p Items.none = refl
    items_length p (Items.next item items) =
        omega (
          arith,
          length-append (item_code names labels p item)
              (items_code names labels (p + item_size item) items),
          item_length p item,
          items_length
              (p + item_size item) items,
        )

module _ (names : List Entry) where
  pub routine_length : (p : ℕ) (body : Items) → length (routine_code names p body) ≡ items_size body + 1
  routine_length p body =
      omega (
        arith,
        length-append (items_code names (label_place p body) p body) (Ret ∷ []),
        items_length names (label_place p body) p body,
      )

  pub routines_length : (bodies : List Items) (p : ℕ)
      → length (routines_code names p bodies) ≡ bodies_size bodies
  routines_length [] p = refl
  routines_length (body ∷ bodies) p =
      let next = p + items_size body + 1 in
      omega (
        arith,
        length-append (routine_code names p body) (routines_code names next bodies),
        routine_length p body,
        routines_length bodies next,
      )
