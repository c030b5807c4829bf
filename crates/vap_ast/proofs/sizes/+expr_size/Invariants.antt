use Rattle.std.proofs.Common.{◌≡◌, ◌+◌, ◌≤◌, drop}
use Rattle.std.specs.Prelude.{min}
use Rattle.vap_ast.specs.Sizes.{exprs_size}
use Rattle.vap_ast.specs.Tree.{exprs_of}
use Rattle.vap_ast.proofs.sizes.+expr_size.Given as goal

abbrev pub invariant-exprs_size-loop-arg : goal.invariant-exprs_size-loop-arg
invariant-exprs_size-loop-arg l = (min (l.total + exprs_size (exprs_of (drop l.arg-index l.args))) 65536 ≡ min (exprs_size (exprs_of l.args)) 65536) × (l.total ≤ 65536)
