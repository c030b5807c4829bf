use Rattle.std.proofs.Common.{◌≡◌, ℕ, List, length, None}
use Rattle.vap_check.specs.KeptNames.{held_at}
use Rattle.vap_check.proofs.kinds.no_names.Given as goal

abbrev pub invariant-loop : goal.invariant-loop
invariant-loop l = record {
  count : length l.trees.items ≡ l.counter;
  none : (name : List ℕ) (place : ℕ) → held_at l.trees.items place name ≡ None;
}
