-- As many arguments as there are trees in a list.
use Rattle.std.proofs.Common.{◌≡◌, suc, List, [], ◌∷◌, length, refl, ap}
use Rattle.vap_ast.specs.declared.tree.Expr.{Expr}
use Rattle.vap_ast.specs.Sound.{count_arguments}
use Rattle.vap_ast.specs.Tree.{exprs_of}

pub counted : (args : List Expr) → count_arguments (exprs_of args) ≡ length args
counted [] = refl
counted (arg ∷ args) = ap suc (counted args)
