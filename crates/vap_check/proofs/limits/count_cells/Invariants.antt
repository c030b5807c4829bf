use Rattle.std.proofs.Common.{◌≡◌, ◌+◌, ◌≤◌, length, drop, map}
use Rattle.std.specs.Prelude.{min, flat_map}
use Rattle.vap_ast.specs.Tree.{array_of}
use Rattle.vap_check.proofs.limits.count_cells.Given as goal

abbrev pub invariant-loop-array : goal.invariant-loop-array
invariant-loop-array l = (min (l.total + length (flat_map (λ a. a.values) (map array_of (drop l.array-index l.arrays)))) 65536 ≡ min
    (length (flat_map (λ a. a.values) (map array_of l.arrays))) 65536) × (l.total ≤ 65536)
