-- An expression begins no statement.
use Rattle.std.proofs.Common.{List, [], ◌∷◌, ◌++◌, Option, None, Some, refl}
use Rattle.vap_ast.specs.declared.name.Entry.{Entry}
use Rattle.vap_ast.specs.declared.name.Meaning.{Meaning}
use Rattle.vap_ast.specs.declared.name.Meaning.TheVariants as meaning
use Rattle.vap_ast.specs.declared.tree.BinaryOp.{BinaryOp}
use Rattle.vap_ast.specs.declared.tree.BinaryOp.TheVariants as op
use Rattle.vap_ast.specs.declared.tree.UnaryOp.{UnaryOp}
use Rattle.vap_ast.specs.declared.tree.UnaryOp.TheVariants.{Neg, Not}
use Rattle.vap_ast.specs.Names.{meaning_in}
use Rattle.vap_ast.specs.Syntax.{Expr, Exprs}
use Rattle.vap_code.specs.declared.Instr.{Instr}
use Rattle.vap_compile.specs.Layout.{binary_instr, expr_code, exprs_code, name_instr, unary_instr}
use Rattle.laws.proofs.StatementsCounted.{AreQuiet, IsQuiet}

pub join_quiet : (is js : List Instr) → AreQuiet is → AreQuiet js → AreQuiet (is ++ js)
join_quiet [] js one two = two
join_quiet (i ∷ is) js one two = (one.0, join_quiet is js one.1 two)

name_quiet : (m : Option Meaning) → IsQuiet (name_instr m)
name_quiet None = record { none = λ p. refl; no_call = refl }
name_quiet (Some (meaning.Constant v)) = record { none = λ p. refl; no_call = refl }
name_quiet (Some (meaning.Array a)) = record { none = λ p. refl; no_call = refl }
name_quiet (Some (meaning.Sub s)) = record { none = λ p. refl; no_call = refl }
name_quiet (Some (meaning.Timer t)) = record { none = λ p. refl; no_call = refl }
name_quiet (Some (meaning.Variable v)) = record { none = λ p. refl; no_call = refl }

unary_quiet : (o : UnaryOp) → IsQuiet (unary_instr o)
unary_quiet Neg = record { none = λ p. refl; no_call = refl }
unary_quiet Not = record { none = λ p. refl; no_call = refl }

binary_quiet : (o : BinaryOp) → IsQuiet (binary_instr o)
binary_quiet op.Or = record { none = λ p. refl; no_call = refl }
binary_quiet op.And = record { none = λ p. refl; no_call = refl }
binary_quiet op.Eq = record { none = λ p. refl; no_call = refl }
binary_quiet op.Ne = record { none = λ p. refl; no_call = refl }
binary_quiet op.Lt = record { none = λ p. refl; no_call = refl }
binary_quiet op.Le = record { none = λ p. refl; no_call = refl }
binary_quiet op.Gt = record { none = λ p. refl; no_call = refl }
binary_quiet op.Ge = record { none = λ p. refl; no_call = refl }
binary_quiet op.Add = record { none = λ p. refl; no_call = refl }
binary_quiet op.Sub = record { none = λ p. refl; no_call = refl }
binary_quiet op.Mul = record { none = λ p. refl; no_call = refl }
binary_quiet op.Div = record { none = λ p. refl; no_call = refl }

module _ (names : List Entry) where
  mutual
    pub expr_quiet : (e : Expr) → AreQuiet (expr_code names e)
    expr_quiet (Expr.Literal v) = (record { none = λ p. refl; no_call = refl }, tt)
    expr_quiet (Expr.Name name) = (name_quiet (meaning_in names name), tt)
    expr_quiet (Expr.Cell array index) = join_quiet (expr_code names index) _ (expr_quiet index) (record { none = λ p. refl; no_call = refl }, tt)
    expr_quiet (Expr.Unary o arg) = join_quiet (expr_code names arg) _ (expr_quiet arg) (unary_quiet o, tt)
    expr_quiet (Expr.Binary o left right) =
        join_quiet (expr_code names left) _ (expr_quiet left) (join_quiet (expr_code names right) _ (expr_quiet right) (binary_quiet o, tt))
    expr_quiet (Expr.Read kind args) = join_quiet (exprs_code names args) _ (exprs_quiet args) (record { none = λ p. refl; no_call = refl }, tt)

    pub exprs_quiet : (args : Exprs) → AreQuiet (exprs_code names args)
    exprs_quiet Exprs.none = tt
    exprs_quiet (Exprs.next arg args) = join_quiet (expr_code names arg) _ (expr_quiet arg) (exprs_quiet args)
