use Rattle.std.proofs.Common.{◌≡◌, ◌≤◌, length}
use Rattle.pua_model.specs.Plan.{groups_in}
use Rattle.test_told.proofs.foretold.wishes_in.Given as goal

abbrev pub invariant-loop-letter : goal.invariant-loop-letter
invariant-loop-letter l = record {
  size : length l.wishes ≡ groups_in l.plan;
  place : l.place ≤ groups_in l.plan;
}
