-- Refusals in the order of their seconds.
use Rattle.std.specs.Prelude.{ℕ, ◌<◌, ◌≤◌, List, All, length, slice_index_or}
use Rattle.refusal_text.specs.declared.refusal.Refusal.{Refusal}
use Rattle.refusal_text.specs.Words.{second_of}

-- none stands behind one of a later second
abbrev pub AreInOrder : List Refusal → Type 0
AreInOrder found =
    (i j : ℕ) (d e : Refusal) → i ≤ j → j < length found → second_of (slice_index_or found i d) ≤ second_of (slice_index_or found j e)

-- and none is of a second after this one
pub record AreUpTo (second : ℕ) (found : List Refusal) : Type 0 where
  pub order : AreInOrder found
  pub last : All (λ x. second_of x ≤ second) found
