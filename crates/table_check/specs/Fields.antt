-- The fields of a record, and where they stand in it.
use Rattle.std.specs.Prelude.{ℕ, ◌+◌, ◌-◌, ◌==◌, max, nat_le, Bool, false, not, ◌&&◌, if◌then◌else◌}
use Rattle.std.specs.Prelude.{List, [], ◌∷◌, length, map, take, drop, slice_get, slice_index_or, Option, None, Some}
use Rattle.std.specs.List.{list_any}
use Rattle.table_check.specs.Lines.{quoted_after}

-- a comma that does not stand between quotes
abbrev pub ends_field : Bool → ℕ → Bool
ends_field quoted b = (b == 44) && not quoted

-- from which place up to which one the fields of a rest of a record stand, whose first byte has the place `at`, where a field
-- began at `from`
abbrev pub spans_of_rest : Bool → ℕ → ℕ → List ℕ → List (ℕ × ℕ)
spans_of_rest quoted from at [] = (from, at) ∷ []
spans_of_rest quoted from at (b ∷ bs) =
    if ends_field quoted b then (from, at) ∷ spans_of_rest (quoted_after quoted b) (at + 1) (at + 1) bs
    else spans_of_rest (quoted_after quoted b) from (at + 1) bs

-- where the fields of a record stand: between the commas that do not stand between quotes
unfoldable pub spans_of : List ℕ → List (ℕ × ℕ)
spans_of text = spans_of_rest false 0 0 text

-- a field has quotes around it
abbrev pub is_quoted : List ℕ → Bool
is_quoted field =
    nat_le 2 (length field) && ((slice_index_or field 0 0 == 34) && (slice_index_or field (length field - 1) 0 == 34))

-- a field without the quotes around it
abbrev pub bare : List ℕ → List ℕ
bare field = if is_quoted field then take (length field - 2) (drop 1 field) else field

-- the bytes of a field that stands so
abbrev pub field_at : List ℕ → ℕ × ℕ → List ℕ
field_at text span = bare (take (span.1 - span.0) (drop span.0 text))

-- the fields of a record
abbrev pub fields_in : List ℕ → List (List ℕ)
fields_in text = map (field_at text) (spans_of text)

-- a line ends among these bytes
abbrev pub has_feed : List ℕ → Bool
has_feed bytes = list_any (λ b. b == 10) bytes

-- what is marked from one place of a record up to another: at least a byte, and nothing where a line ends before it, as it may
-- between quotes
abbrev pub marked : List ℕ → ℕ → ℕ → ℕ × ℕ
marked text from to = if has_feed (take to text) then (0, 0) else (from, max to (from + 1))

-- from the beginning of the one field up to the end of the other one, where both are there
abbrev pub both_marked : List ℕ → Option (ℕ × ℕ) → Option (ℕ × ℕ) → ℕ × ℕ
both_marked text (Some first) (Some last) = marked text first.0 last.1
both_marked text (Some first) None = (0, 0)
both_marked text None last = (0, 0)

-- from which byte of a record up to which one two of its fields stand with all between them; nothing where one isn't there
abbrev pub fields_span : List ℕ → ℕ → ℕ → ℕ × ℕ
fields_span text first last = both_marked text (slice_get (spans_of text) first) (slice_get (spans_of text) last)
