-- The text of the sums of parts of a log, one after another.
use Rattle.std.specs.Prelude.{ℕ, List, [], ◌∷◌, All, ◌++◌, codes}
use Rattle.std.specs.List.{flat_map}
use Rattle.log_sums.specs.declared.detector.DetectorSums.{DetectorSums}
use Rattle.log_sums.specs.declared.sums.LogSums.{LogSums}
use Rattle.sums_text.specs.Table.{head_text, last_in, sums_rows}
use Rattle.sums_text.specs.Words.{AreTextual, lines_text, pair_text}

-- the detectors of the last part: all that are named in any of the parts are named in it
abbrev pub named_in : List LogSums → List DetectorSums
named_in [] = []
named_in (x ∷ []) = x.detectors
named_in (x ∷ y ∷ rest) = named_in (y ∷ rest)

-- the lines of a part: its first and its last second, and what it adds up to
unfoldable pub part_text : List (List ℕ) → List DetectorSums → LogSums → List ℕ
part_text names named x = pair_text (codes "PART ") x.from ++ pair_text (codes "-") (last_in x) ++ codes "\n" ++ lines_text names named x

-- the lines of parts
abbrev pub parts_text : List (List ℕ) → List LogSums → List ℕ
parts_text names parts = flat_map (part_text names (named_in parts)) parts

-- the rows of parts
abbrev pub parts_rows : List (List ℕ) → List LogSums → List ℕ
parts_rows names parts = flat_map (sums_rows names (named_in parts)) parts

-- the table of parts
unfoldable pub parts_table : List (List ℕ) → List LogSums → List ℕ
parts_table names parts = head_text ++ parts_rows names parts

-- texts can be made of the sums of so many groups
abbrev pub AreAllTextual : ℕ → List LogSums → Type 0
AreAllTextual groups parts = All (AreTextual groups) parts
