use Rattle.std.proofs.Common.{◌≡◌, ℕ, ◌<◌, false, length, get_or, map, []}
use Rattle.pua_model.specs.Plan.{stands_in}
use Rattle.pua_reader.proofs.stages.greens_of.Given as goal

abbrev pub invariant-loop-g : goal.invariant-loop-g
invariant-loop-g l = record {
  size : length l.greens ≡ length l.groups;
  each : (j : ℕ) → j < l.g → get_or l.greens j false ≡ stands_in (get_or l.groups j (record { name = []; number = 0 })).name (map (λ w. w.now) l.named);
}
