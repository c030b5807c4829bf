use Rattle.std.proofs.Common.{◌≡◌, ◌≤◌, length, map, take}
use Rattle.std.specs.List.{All}
use Rattle.vap_vm.proofs.arrays.Arrays.of.Given as goal

abbrev pub invariant-loop-array : goal.invariant-loop-array
invariant-loop-array l = (map (λ r. r.items) l.rows.items ≡ map (λ r. r.items) (take l.array-index l.arrays)) × All (λ r. length r.items ≤ 1024) l.rows.items
