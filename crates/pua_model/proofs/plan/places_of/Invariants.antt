use Rattle.std.proofs.Common.{◌≡◌, ◌==◌, ◌<◌, length, None, ℕ, slice_index_or}
use Rattle.std.specs.List.{position}
use Rattle.pua_model.specs.Plan.{group_number}
use Rattle.pua_model.proofs.plan.places_of.Given as goal

abbrev pub invariant-loop-number : goal.invariant-loop-number
invariant-loop-number l =
    (length l.places ≡ 256) × ((n : ℕ) → n < l.number → group_number (slice_index_or l.places n None) ≡ position (λ g. g.number == n) l.groups)
