-- Cuts, numbers and names in a text.
use Rattle.std.specs.Prelude.{ℕ, ◌+◌, ◌-◌, ◌*◌, Bool, true, false, ◌&&◌, ◌||◌, not, ◌==◌, nat_eq, nat_le, List, [], ◌∷◌, length, Option, None, Some, if◌then◌else◌}
use Rattle.std.specs.List.{slice_split}
use Rattle.std.specs.Option.{option_map}

-- what stands before the first stop, and what stands after it
abbrev pub cut_at : ℕ → List ℕ → Option (List ℕ × List ℕ)
cut_at stop [] = None
cut_at stop (b ∷ bs) = if nat_eq b stop then Some ([], bs) else option_map (λ p. (b ∷ p.0, p.1)) (cut_at stop bs)

-- what follows this front
abbrev pub strip : List ℕ → List ℕ → Option (List ℕ)
strip [] bs = Some bs
strip (f ∷ fs) [] = None
strip (f ∷ fs) (b ∷ bs) = if nat_eq b f then strip fs bs else None

-- an ASCII digit
abbrev pub is_digit : ℕ → Bool
is_digit b = nat_le 48 b && nat_le b 57

-- nothing but digits
abbrev pub all_digits : List ℕ → Bool
all_digits [] = true
all_digits (b ∷ bs) = is_digit b && all_digits bs

-- the number that digits stand for, after a number of tens
abbrev pub value_from : ℕ → List ℕ → ℕ
value_from n [] = n
value_from n (d ∷ ds) = value_from (10 * n + (d - 48)) ds

-- no byte
abbrev pub is_empty : List ℕ → Bool
is_empty [] = true
is_empty (b ∷ bs) = false

-- a decimal number without a leading zero
abbrev pub number_of : List ℕ → Option ℕ
number_of [] = None
number_of (d ∷ ds) = if all_digits (d ∷ ds) && (not (nat_eq d 48) || is_empty ds) then Some (value_from 0 (d ∷ ds)) else None

-- the number, where it is from the least to the most
abbrev pub within : ℕ → ℕ → Option ℕ → Option ℕ
within least most None = None
within least most (Some n) = if nat_le least n && nat_le n most then Some n else None

-- an ASCII letter or `_`
abbrev pub is_letter : ℕ → Bool
is_letter b = (nat_le 65 b && nat_le b 90) || (nat_le 97 b && nat_le b 122) || nat_eq b 95

-- nothing but letters, digits and underlines
abbrev pub is_word : List ℕ → Bool
is_word [] = true
is_word (b ∷ bs) = (is_letter b || is_digit b) && is_word bs

-- a name of a group: 1 to 32 letters, digits and underlines, the first no digit
abbrev pub is_name : List ℕ → Bool
is_name [] = false
is_name (b ∷ bs) = is_letter b && is_word bs && nat_le (length bs) 31

-- the byte with an ASCII capital turned to its small letter
abbrev pub lower : ℕ → ℕ
lower b = if nat_le 65 b && nat_le b 90 then b + 32 else b

-- the two names are one, without regard to case
abbrev pub same_name : List ℕ → List ℕ → Bool
same_name [] [] = true
same_name [] (y ∷ ys) = false
same_name (x ∷ xs) [] = false
same_name (x ∷ xs) (y ∷ ys) = nat_eq (lower x) (lower y) && same_name xs ys

-- the bytes between line feeds are lines, and those after the last line feed where there are some
abbrev pub lines_of_parts : List (List ℕ) → List (List ℕ)
lines_of_parts [] = []
lines_of_parts (last ∷ []) = if is_empty last then [] else last ∷ []
lines_of_parts (line ∷ next ∷ more) = line ∷ lines_of_parts (next ∷ more)

-- the lines of a text: each ends at a line feed, or at the end of the text; a carriage return is a byte like any other
unfoldable pub fed_lines : List ℕ → List (List ℕ)
fed_lines text = lines_of_parts (slice_split (λ b. b == 10) text)
