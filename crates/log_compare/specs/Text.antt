-- The text of the first difference of two logs, of groups with these names.
use Rattle.std.specs.Prelude.{ℕ, ◌==◌, List, [], ◌∷◌, ◌++◌, codes, Option, None, Some, if◌then◌else◌}
use Rattle.std.specs.Fmt.{decimal}
use Rattle.std.specs.Str.{bytes_eq}
use Rattle.log_read.specs.Fields.{Fields, fields_of}
use Rattle.log_compare.specs.declared.difference.Difference.{Difference}
use Rattle.log_compare.specs.declared.difference.Difference.TheVariants.{Nowhere, OneEnds, OtherEnds, In}

-- the values of the one log and of the other
abbrev pub values_text : List ℕ → List ℕ → List ℕ
values_text one other = codes " " ++ one ++ codes " | " ++ other ++ codes "\n"

-- the line of a field, if it isn't the same in both
unfoldable pub field_text : ℕ → List ℕ → List ℕ → List ℕ → List ℕ
field_text second word one other = if bytes_eq one other then [] else decimal second ++ word ++ values_text one other

-- the line of a group, if its letter isn't the same in both
unfoldable pub aspect_text : ℕ → List ℕ → ℕ → ℕ → List ℕ
aspect_text second name one other =
    if one == other then [] else decimal second ++ codes " GROUP " ++ name ++ values_text (one ∷ []) (other ∷ [])

-- the lines of the groups
abbrev pub aspects_text : ℕ → List (List ℕ) → List ℕ → List ℕ → List ℕ
aspects_text second [] ones others = []
aspects_text second (name ∷ names) [] others = []
aspects_text second (name ∷ names) (one ∷ ones) [] = []
aspects_text second (name ∷ names) (one ∷ ones) (other ∷ others) = aspect_text second name one other ++ aspects_text second names ones others

-- the lines of the fields
unfoldable pub fields_text : ℕ → List (List ℕ) → Fields → Fields → List ℕ
fields_text second names f g =
    field_text second (codes " STAGE") f.place g.place ++ aspects_text second names f.aspects g.aspects
    ++ field_text second (codes " COUNTS") f.counts g.counts ++ field_text second (codes " REFUSED") f.refused g.refused
    ++ field_text second (codes " FAULT") f.fault g.fault

-- the same where both lines have six fields, as each line of an accepted log has
abbrev pub cut_text : ℕ → List (List ℕ) → Option Fields → Option Fields → List ℕ
cut_text second names None g = []
cut_text second names (Some f) None = []
cut_text second names (Some f) (Some g) = fields_text second names f g

-- what two lines of a second tell differently, field by field in the log's own words
abbrev pub lines_text : ℕ → List (List ℕ) → List ℕ → List ℕ → List ℕ
lines_text second names one other = cut_text second names (fields_of one) (fields_of other)

-- the line of the log with this word, which ends with this second before the other one
abbrev pub ends_text : ℕ → List ℕ → List ℕ
ends_text last word = codes "second " ++ decimal last ++ codes " is the last of " ++ word ++ codes "\n"

-- the text of a difference, of logs with these words
abbrev pub difference_text : List (List ℕ) → (word other_word : List ℕ) → Difference → List ℕ
difference_text names word other_word Nowhere = codes "no second differs\n"
difference_text names word other_word (OneEnds last) = ends_text last word
difference_text names word other_word (OtherEnds last) = ends_text last other_word
difference_text names word other_word (In second one other) = lines_text second names one.now other.now
