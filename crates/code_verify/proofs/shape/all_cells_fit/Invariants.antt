use Rattle.std.proofs.Common.{◌≡◌, ◌+◌, length, map, sum, take}
use Rattle.sig_types.specs.Limits.{most_cells}
use Rattle.code_verify.proofs.shape.all_cells_fit.Given as goal

abbrev pub invariant-loop-array : goal.invariant-loop-array
invariant-loop-array l = sum (map (λ a. length a.items) (take l.array-index l.arrays)) + l.room ≡ most_cells
