use Rattle.std.proofs.Common.{◌≡◌, ℕ, ◌<◌, get_or, true}
use Rattle.std.specs.List.{list_all}
use Rattle.sig_types.specs.Number.{fits}
use Rattle.code_file.proofs.ranges.array_ranges.Given as goal

abbrev pub invariant-loop-array : goal.invariant-loop-array
invariant-loop-array l = (k : ℕ) (d : _) → k < l.array-index → list_all fits (get_or l.arrays k d).items ≡ true
