-- The lines of a text, one after another.
use Rattle.std.proofs.Common.{◌≡◌, ℕ, ◌<◌, ◌==◌, false, List, [], ◌∷◌, ◌++◌, length, refl, arith, ne_eqb}
use Rattle.std.specs.List.{slice_split, All}
use Rattle.std.specs.Str.Lines.{lines, lines_of_parts, strip_carriage_return}
use Rattle.std.proofs.lemmas.List.Splits.{slice_split_at, slice_split_none, length-slice_split}

-- the lines of parts, where more follow the first
pub lines_of_more : (x : List ℕ) (parts : List (List ℕ)) → 0 < length parts → lines_of_parts (x ∷ parts) ≡ strip_carriage_return x ∷ lines_of_parts parts
lines_of_more x [] lt = absurd (omega arith)
lines_of_more x (y ∷ more) lt = refl

-- a line that a line feed ends, and a last line without one
pub lines_next : (raw rest : List ℕ) → All (λ b. (b == 10) ≡ false) raw → lines (raw ++ 10 ∷ rest) ≡ strip_carriage_return raw ∷ lines rest
lines_next raw rest none =
    rw (slice_split_at (λ b. b == 10) raw 10 rest none refl)
    (lines_of_more raw (slice_split (λ b. b == 10) rest) (omega (arith, length-slice_split (λ b. b == 10) rest)))

pub lines_last : (raw : List ℕ) → All (λ b. (b == 10) ≡ false) raw → 0 < length raw → lines raw ≡ raw ∷ []
lines_last raw none lt =
    rw (slice_split_none (λ b. b == 10) raw none, ne_eqb (length raw) 0 (λ e. omega arith)) refl
