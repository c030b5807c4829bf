-- Pieces of a note, one after the other.
use Rattle.std.proofs.Common.{◌≡◌, ℕ, List, [], ◌++◌, append_assoc, arith}
use Rattle.std.proofs.lemmas.List.{append-nil}

pub seven : (a b c d e f g : List ℕ) → a ++ (b ++ (c ++ (d ++ (e ++ (f ++ (g ++ [])))))) ≡ a ++ b ++ c ++ d ++ e ++ f ++ g
seven a b c d e f g = grind (arith, append_assoc, append-nil)

-- the note of a refusal
pub refusal : (a w c l d n e : List ℕ) → a ++ w ++ c ++ l ++ d ++ n ++ e ≡ (a ++ (w ++ (c ++ l) ++ d ++ n)) ++ e
refusal a w c l d n e = simp append_assoc
