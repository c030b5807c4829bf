use Rattle.std.proofs.Common.{ℕ, ◌≤◌, ◌<◌, length, get_or}
use Rattle.sig_types.specs.Limits.{most_array_cells}
use Rattle.code_verify.proofs.shape.cells_fit.Given as goal

abbrev pub invariant-loop-array : goal.invariant-loop-array
invariant-loop-array l = (k : ℕ) (d : _) → k < l.array-index → (1 ≤ length (get_or l.arrays k d).items)
    × (length (get_or l.arrays k d).items ≤ most_array_cells)
