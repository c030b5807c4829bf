-- The rows of a table of sums.
use Rattle.std.specs.Prelude.{ℕ, ◌&&◌, Bool, List, [], ◌∷◌, ◌++◌, drop, fold, Option, None, Some}
use Rattle.std.specs.Option.{option_and_then}
use Rattle.std.specs.Str.{bytes_eq}
use Rattle.sig_types.specs.Text.{cut_at, fed_lines}
use Rattle.log_compare.specs.declared.rows.Row.{Row}

-- what a row is of: the word and the name of its line, and its key; and its value
pub record Cells : Type 0 where
  pub line : List ℕ
  pub name : List ℕ
  pub key : List ℕ
  pub value : List ℕ

-- the cells that stand so in a row
abbrev pub row_in : Row → Cells
row_in row = record { line = row.line.now; name = row.name.now; key = row.key.now; value = row.value.now }

-- the cells, where the last two stand at the two ends of a cut
abbrev pub cut_key : List ℕ → List ℕ → List ℕ × List ℕ → Option Cells
cut_key line name p = Some (record { line = line; name = name; key = p.0; value = p.1 })

-- the cells behind the name
abbrev pub cut_name : List ℕ → List ℕ × List ℕ → Option Cells
cut_name line p = option_and_then (cut_key line p.0) (cut_at 44 p.1)

-- the cells behind the word of the line
abbrev pub cut_line : List ℕ × List ℕ → Option Cells
cut_line p = option_and_then (cut_name p.0) (cut_at 44 p.1)

-- the cells behind the last second
abbrev pub cut_to : List ℕ × List ℕ → Option Cells
cut_to p = option_and_then cut_line (cut_at 44 p.1)

-- the cells behind the first second
abbrev pub cut_from : List ℕ × List ℕ → Option Cells
cut_from p = option_and_then cut_to (cut_at 44 p.1)

-- the cells of a line `from,to,line,name,key,value`
unfoldable pub row_of : List ℕ → Option Cells
row_of line = option_and_then cut_from (cut_at 44 line)

-- these rows, and one more where there is one
abbrev pub with_cells : List Cells → Option Cells → List Cells
with_cells rows None = rows
with_cells rows (Some row) = rows ++ row ∷ []

-- these rows, and that of a line
abbrev pub with_row : List Cells → List ℕ → List Cells
with_row rows line = with_cells rows (row_of line)

-- the rows among these lines
abbrev pub rows_in : List (List ℕ) → List Cells
rows_in lines = fold with_row [] lines

-- the rows of a table, behind the line with the names of its columns
abbrev pub rows_of : List ℕ → List Cells
rows_of table = rows_in (drop 1 (fed_lines table))

-- two rows are of one line
abbrev pub same_line : Cells → Cells → Bool
same_line one other = bytes_eq one.line other.line && bytes_eq one.name other.name

-- two rows have one key of one line
abbrev pub same_key : Cells → Cells → Bool
same_key one other = bytes_eq one.key other.key && same_line one other
