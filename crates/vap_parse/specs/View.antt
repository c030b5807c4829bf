-- Trees as lists of their parts.
use Rattle.std.specs.Prelude.{ℤ, List, map}
use Rattle.std.specs.Global.{Vec}
use Rattle.vap_ast.specs.Syntax as s
use Rattle.vap_ast.specs.declared.tree.Expr.{Expr}
use Rattle.vap_ast.specs.declared.tree.Items.{Items}
use Rattle.vap_ast.specs.declared.tree.Routine.{Routine}
use Rattle.vap_ast.specs.Tree.{expr_of, item_of, routine_of}

-- arguments
abbrev pub args_of : Vec Expr → List s.Expr
args_of es = map expr_of es.items

-- the items of a body
abbrev pub items_in : Items → List s.Item
items_in body = map item_of body.0.items

-- the values of an array
abbrev pub values_of : Vec ℤ → List ℤ
values_of values = values.items

-- subroutines
abbrev pub subs_of : Vec Routine → List s.Routine
subs_of subs = map routine_of subs.items
