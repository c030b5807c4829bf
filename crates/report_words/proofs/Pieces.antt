-- Pieces, one after the other.
use Rattle.std.proofs.Common.{◌≡◌, ℕ, List, [], ◌++◌, append_assoc, arith}
use Rattle.std.proofs.lemmas.List.{append-nil}

pub eleven : (a b c d e f g h i j k : List ℕ) →
    a ++ (b ++ (c ++ (d ++ (e ++ (f ++ (g ++ (h ++ (i ++ (j ++ (k ++ [])))))))))) ≡ a ++ b ++ c ++ d ++ e ++ f ++ g ++ h ++ i ++ j ++ k
eleven a b c d e f g h i j k = grind (arith, append_assoc, append-nil)

pub three : (a b c : List ℕ) → a ++ (b ++ (c ++ [])) ≡ a ++ b ++ c
three a b c = grind (arith, append_assoc, append-nil)

-- a note about a file
pub about : (a w t e : List ℕ) → (a ++ w) ++ (t ++ e) ≡ (a ++ (w ++ t)) ++ e
about a w t e = simp append_assoc

-- the note of a refusal
pub refusal : (a w c l d n b f g s e : List ℕ) →
    a ++ w ++ c ++ l ++ d ++ n ++ b ++ f ++ g ++ s ++ e ≡ (a ++ (w ++ (c ++ l) ++ d ++ (n ++ b ++ f ++ g ++ s))) ++ e
refusal a w c l d n b f g s e = simp append_assoc
