-- Numbers of seconds with at most one decimal, as tenths.
use Rattle.std.specs.Prelude.{ℕ, ◌+◌, ◌*◌, ◌-◌, List, [], ◌∷◌, Option, None, Some, if◌then◌else◌}
use Rattle.sig_types.specs.Text.{cut_at, is_digit, number_of, within}

-- ten times a number, and a digit
abbrev pub with_tenth : Option ℕ → ℕ → Option ℕ
with_tenth None d = None
with_tenth (Some n) d = Some (10 * n + (d - 48))

-- the tenths of a number of at most eight digits, with this digit
abbrev pub whole_with : List ℕ → ℕ → Option ℕ
whole_with whole d = with_tenth (within 0 99999999 (number_of whole)) d

-- the tenths of a number and what stands behind its point: one digit
abbrev pub pointed : List ℕ → List ℕ → Option ℕ
pointed whole [] = None
pointed whole (d ∷ []) = if is_digit d then whole_with whole d else None
pointed whole (d ∷ e ∷ rest) = None

-- the tenths of a text that is a number, or one, a point and one digit
abbrev pub tenths_cut : List ℕ → Option (List ℕ × List ℕ) → Option ℕ
tenths_cut text None = whole_with text 48
tenths_cut text (Some p) = pointed p.0 p.1

-- the tenths of a text that is a whole number, or one with a point and a digit behind it
unfoldable pub tenths_of : List ℕ → Option ℕ
tenths_of text = tenths_cut text (cut_at 46 text)
