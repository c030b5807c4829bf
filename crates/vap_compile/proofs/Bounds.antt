-- The stretches and the command counts of compiled code.
use Rattle.vap_ast.specs.Sizes.{own_size}
use Rattle.std.proofs.Common.{◌≡◌, ℕ, ◌+◌, ◌-◌, ◌≤◌, List, [], ◌∷◌, ◌++◌, length, Some, Option, None, refl, arith, length-append}
use Rattle.sig_types.specs.declared.kinds.TimerKind.{TimerKind}
use Rattle.sig_types.specs.declared.kinds.TimerKind.TheVariants.{Start as Start_timer, Stop as Stop_timer, Reset as Reset_timer}
use Rattle.vap_ast.specs.declared.name.Entry.{Entry}
use Rattle.vap_ast.specs.declared.name.Meaning.{Meaning}
use Rattle.vap_ast.specs.declared.name.Meaning.TheVariants.{Constant, Array, Sub as Sub_of, Timer as Timer_of, Variable}
use Rattle.vap_ast.specs.declared.tree.BinaryOp.{BinaryOp}
use Rattle.vap_ast.specs.declared.tree.BinaryOp.TheVariants.{Or as O_or, And as O_and, Eq as O_eq, Ne as O_ne, Lt as O_lt, Le as O_le, Gt as O_gt, Ge as O_ge, Add as O_add, Sub as O_sub, Mul as O_mul, Div as O_div}
use Rattle.vap_ast.specs.declared.tree.UnaryOp.{UnaryOp}
use Rattle.vap_ast.specs.declared.tree.UnaryOp.TheVariants.{Neg as O_neg, Not as O_not}
use Rattle.vap_ast.specs.Names.{meaning_in}
use Rattle.vap_ast.specs.Value.{array_number}
use Rattle.vap_ast.specs.Mean.{variable_number, timer_number}
use Rattle.vap_ast.specs.Syntax.{Expr, Exprs, Stmt}
use Rattle.vap_code.specs.declared.Instr.{Instr}
use Rattle.vap_code.specs.declared.Instr.TheVariants.{Tick, Store, Cell, SetCell, Read, Do, Call, Ret}
use Rattle.vap_code.specs.Valid.{stretch_of, commands_of}
use Rattle.vap_compile.specs.Layout.{expr_code, exprs_code, binary_instr, unary_instr, name_instr, timer_instr}
use Rattle.vap_compile.proofs.BackTables.{costs, costs_on}
use Rattle.vap_compile.proofs.Weights.{flat_code, jumps, Weighs}
use Rattle.vap_compile.proofs.Lengths.{expr_length, exprs_length}

-- ---- stretches: each instruction costs 1

abbrev pub one : Instr → ℕ
one i = 1

costs_length : (is : List Instr) → costs one is ≡ length is
costs_length [] = refl
costs_length (i ∷ is) = omega (arith, costs_length is)

stretch_cheap : (i : Instr) (g : ℕ) → stretch_of i g ≤ one i + g
stretch_cheap (Tick line) g = omega arith
stretch_cheap Ret g = omega arith
stretch_cheap (Call r) g = omega arith
stretch_cheap _ g = omega arith

module _ (names : List Entry) where
  stretch_fine : (line : ℕ) (what : Stmt) → own_size what ≤ 900
      → costs one (flat_code names line what) + jumps names what 1 + 101 ≤ 1022
  stretch_fine line (Stmt.Assign name e) h =
      omega (
        arith,
        h,
        costs_length (flat_code names line (Stmt.Assign name e)),
        length-append
            (expr_code names e) (Store (variable_number (meaning_in names name)) ∷ []),
        expr_length names
            e,
      )
  stretch_fine line (Stmt.Cell name i e) h =
      let a = array_number (meaning_in names name) in
      omega (
        arith,
        h,
        costs_length (flat_code names line (Stmt.Cell name i e)),
        length-append
            (expr_code names i) (expr_code names e ++ SetCell a ∷ []),
        length-append (expr_code names e)
            (SetCell a ∷ []),
        expr_length names i,
        expr_length names e,
      )
  stretch_fine line (Stmt.If test first second) h =
      omega (arith, h, costs_length (expr_code names test), expr_length names test)
  stretch_fine line (Stmt.Goto label) h = omega arith
  stretch_fine line (Stmt.Gosub name) h = omega arith
  stretch_fine line (Stmt.Do kind args) h =
      omega (
        arith,
        h,
        costs_length (flat_code names line (Stmt.Do kind args)),
        length-append
            (exprs_code names args) (Do kind ∷ []),
        exprs_length names args,
      )
  stretch_fine line (Stmt.Timer kind name) h = omega arith
  stretch_fine line Stmt.Trace h = omega arith

  -- 900 of a statement, 100 closing jumps and a return
  pub stretch_weighs : Weighs stretch_of one 1022 101 1 1 (λ n. 101 - n) names
  stretch_weighs = record {
    cheap = stretch_cheap;
    ticks = λ line g. refl;
    jump = λ t. omega arith;
    zero_jump = λ t. omega arith;
    ret = λ g. omega arith;
    low = λ n. omega arith;
    more = λ n some few. omega arith;
    returns = omega arith;
    fine = stretch_fine;
  }

-- ---- commands: a command costs 1, nothing else costs

abbrev pub of_command : Instr → ℕ
of_command (Do kind) = 1
of_command _ = 0

commands_cheap : (i : Instr) (g : ℕ) → commands_of i g ≤ of_command i + g
commands_cheap (Tick line) g = omega arith
commands_cheap Ret g = omega arith
commands_cheap (Call r) g = omega arith
commands_cheap (Do kind) g = omega arith
commands_cheap _ g = omega arith

binary_free : (op : BinaryOp) → of_command (binary_instr op) ≡ 0
binary_free O_or = refl
binary_free O_and = refl
binary_free O_eq = refl
binary_free O_ne = refl
binary_free O_lt = refl
binary_free O_le = refl
binary_free O_gt = refl
binary_free O_ge = refl
binary_free O_add = refl
binary_free O_sub = refl
binary_free O_mul = refl
binary_free O_div = refl

unary_free : (op : UnaryOp) → of_command (unary_instr op) ≡ 0
unary_free O_neg = refl
unary_free O_not = refl

name_free : (m : Option Meaning) → of_command (name_instr m) ≡ 0
name_free (Some (Constant v)) = refl
name_free (Some (Timer_of t)) = refl
name_free (Some (Variable x)) = refl
name_free None = refl
name_free (Some (Array a)) = refl
name_free (Some (Sub_of k)) = refl

timer_free : (kind : TimerKind) (t : ℕ) → of_command (timer_instr kind t) ≡ 0
timer_free Start_timer t = refl
timer_free Stop_timer t = refl
timer_free Reset_timer t = refl

module _ (names : List Entry) where
  mutual
    expr_free : (e : Expr) → costs of_command (expr_code names e) ≡ 0
    expr_free (Expr.Literal v) = refl
    expr_free (Expr.Name name) = omega (arith, name_free (meaning_in names name))
    expr_free (Expr.Cell array index) =
        omega (
          arith,
          costs_on of_command (expr_code names index)
              (Cell (array_number (meaning_in names array)) ∷ []),
          expr_free index,
        )
    expr_free (Expr.Unary op arg) =
        omega (
          arith,
          costs_on of_command (expr_code names arg) (unary_instr op ∷ []),
          expr_free arg,
          unary_free op,
        )
    expr_free (Expr.Binary op left right) =
        omega (
          arith,
          costs_on of_command (expr_code names left)
              (expr_code names right ++ binary_instr op ∷ []),
          costs_on of_command (expr_code names right)
              (binary_instr op ∷ []),
          expr_free left,
          expr_free right,
          binary_free op,
        )
    expr_free (Expr.Read kind args) =
        omega (arith, costs_on of_command (exprs_code names args) (Read kind ∷ []), exprs_free args)

    exprs_free : (args : Exprs) → costs of_command (exprs_code names args) ≡ 0
    exprs_free Exprs.none = refl
    exprs_free (Exprs.next arg args) =
        omega (
          arith,
          costs_on of_command (expr_code names arg) (exprs_code names args),
          expr_free arg,
          exprs_free args,
        )

  commands_fine : (line : ℕ) (what : Stmt) → own_size what ≤ 900
      → costs of_command (flat_code names line what) + jumps names what 0 + 0 ≤ 1
  commands_fine line (Stmt.Assign name e) h =
      omega (
        arith,
        costs_on of_command (expr_code names e)
            (Store (variable_number (meaning_in names name)) ∷ []),
        expr_free e,
      )
  commands_fine line (Stmt.Cell name i e) h =
      let a = array_number (meaning_in names name) in
      omega (
        arith,
        costs_on of_command (expr_code names i) (expr_code names e ++ SetCell a ∷ []),
        costs_on of_command (expr_code names e) (SetCell a ∷ []),
        expr_free i,
        expr_free e,
      )
  commands_fine line (Stmt.If test first second) h = omega (arith, expr_free test)
  commands_fine line (Stmt.Goto label) h = omega arith
  commands_fine line (Stmt.Gosub name) h = omega arith
  commands_fine line (Stmt.Do kind args) h =
      omega (arith, costs_on of_command (exprs_code names args) (Do kind ∷ []), exprs_free args)
  commands_fine line (Stmt.Timer kind name) h =
      omega (arith, timer_free kind (timer_number (meaning_in names name)))
  commands_fine line Stmt.Trace h = omega arith

  pub commands_weigh : Weighs commands_of of_command 1 0 0 0 (λ n. 0) names
  commands_weigh = record {
    cheap = commands_cheap;
    ticks = λ line g. refl;
    jump = λ t. omega arith;
    zero_jump = λ t. omega arith;
    ret = λ g. omega arith;
    low = λ n. omega arith;
    more = λ n some few. omega arith;
    returns = omega arith;
    fine = commands_fine;
  }
