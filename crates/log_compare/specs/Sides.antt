-- Two tables of sums side by side.
use Rattle.std.specs.Prelude.{ℕ, List, [], ◌∷◌, ◌++◌, codes, map, Option, None, Some, if◌then◌else◌}
use Rattle.std.specs.List.{flat_map}
use Rattle.sig_types.specs.Text.{is_empty}
use Rattle.log_compare.specs.declared.sides.Side.{Side}
use Rattle.log_compare.specs.Rows.{Cells, row_in, same_key, same_line}

-- a row with the values of the one table and of the other
pub record Beside : Type 0 where
  pub row : Cells
  pub one : List ℕ
  pub other : List ℕ

-- what a side stands for
abbrev pub side_in : Side → Beside
side_in side = record { row = row_in side.row; one = side.one.now; other = side.other.now }

-- the value of the first of these rows that has the key of this one
abbrev pub find_value : List Cells → Cells → Option (List ℕ)
find_value [] row = None
find_value (other ∷ others) row = if same_key other row then Some other.value else find_value others row

-- a value, and a dash where there is none
abbrev pub or_dash : Option (List ℕ) → List ℕ
or_dash None = codes "-"
or_dash (Some value) = value

-- a row of the one table, beside its value in the other
abbrev pub one_side : List Cells → Cells → Beside
one_side others row = record { row = row; one = row.value; other = or_dash (find_value others row) }

-- a row of the other table, where there is no value in the one
abbrev pub lone_by : Cells → Option (List ℕ) → List Beside
lone_by row None = record { row = row; one = codes "-"; other = row.value } ∷ []
lone_by row (Some value) = []

-- the same, where the one table has these rows
abbrev pub lone_sides : List Cells → Cells → List Beside
lone_sides ones row = lone_by row (find_value ones row)

-- the rows of the one table with their values in the other, and then those that the other alone has
unfoldable pub sides_of : List Cells → List Cells → List Beside
sides_of ones others = map (one_side others) ones ++ flat_map (lone_sides ones) others

-- ---- the text

-- a name behind a space, if there is one
unfoldable pub name_text : List ℕ → List ℕ
name_text name = if is_empty name then [] else codes " " ++ name

-- the word and the name of a line
abbrev pub head_text : Cells → List ℕ
head_text row = row.line ++ name_text row.name

-- the beginning of a row: nothing, where the row before is of the same line
unfoldable pub begin_text : Option Cells → Cells → List ℕ
begin_text None row = head_text row
begin_text (Some before) row = if same_line before row then [] else codes "\n" ++ head_text row

-- a key with its two values
abbrev pub value_text : Beside → List ℕ
value_text side = codes " " ++ side.row.key ++ codes ":" ++ side.one ++ codes "|" ++ side.other

-- a row behind another one
abbrev pub side_text : Option Cells → Beside → List ℕ
side_text before side = begin_text before side.row ++ value_text side

-- these rows, behind another one
abbrev pub sides_from : Option Cells → List Beside → List ℕ
sides_from before [] = []
sides_from before (side ∷ sides) = side_text before side ++ sides_from (Some side.row) sides

-- the row before those that follow these
abbrev pub row_before : Option Cells → List Beside → Option Cells
row_before before [] = before
row_before before (side ∷ sides) = row_before (Some side.row) sides

-- the text of sides: a line for what each is of, and in it each key with its two values
unfoldable pub sides_text : List Beside → List ℕ
sides_text sides = sides_from None sides ++ codes "\n"
