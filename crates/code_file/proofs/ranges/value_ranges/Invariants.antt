use Rattle.std.proofs.Common.{◌≡◌, ℕ, ◌<◌, get_or, true}
use Rattle.std.specs.Prelude.{pos}
use Rattle.sig_types.specs.Number.{fits}
use Rattle.code_file.proofs.ranges.value_ranges.Given as goal

abbrev pub invariant-loop-i : goal.invariant-loop-i
invariant-loop-i l = (k : ℕ) → k < l.i → fits (get_or l.values k (pos 0)) ≡ true
