-- The lines of one group more.
use Rattle.std.proofs.Common.{◌≡◌, ℕ, ◌+◌, List, ◌++◌, Some, refl, add-one}
use Rattle.refusal_text.specs.declared.refusal.Refusal.{Refusal}
use Rattle.refusal_text.specs.Sums.{group_text, groups_to}

pub groups_more : (names : List (List ℕ)) (found : List Refusal) (n : ℕ) →
    groups_to names found (n + 1) ≡ groups_to names found n ++ group_text names found (Some (record { 0 = n }))
unfolding groups_to
groups_more names found n = rw add-one refl
