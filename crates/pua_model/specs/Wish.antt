-- The wish of a group in an interstage.
use Rattle.std.specs.Prelude.{ℕ, Bool, true, false, not, ◌&&◌, ◌||◌, Option, Some, None, if◌then◌else◌, ℤ, pos, negsuc, int_lt, int_le}

-- a row with the red end r and the green end e wishes green in second t
abbrev pub is_green_at : ℤ → ℤ → ℤ → Bool
is_green_at r e t = if int_le r e then int_le r t && int_lt t e else int_lt t e || int_le r t

-- the wish of a group's row in second t; a group without a row stays as it was in the from-stage
abbrev pub wished_by : Option (ℤ × ℤ) → ℤ → Bool → Bool
wished_by None t before = before
wished_by (Some row) t before = is_green_at row.0 row.1 t

-- both hold, or neither does
abbrev pub same_truth : Bool → Bool → Bool
same_truth true b = b
same_truth false b = not b

-- a row leads from the one stage to the other in n seconds: one second before it begins the wish is that of the from-stage,
-- and in its last second plus one that of the to-stage
abbrev pub leads : Option (ℤ × ℤ) → Bool → Bool → ℕ → Bool
leads row from to n = same_truth (wished_by row (negsuc 0) from) from && same_truth (wished_by row (pos n) from) to
