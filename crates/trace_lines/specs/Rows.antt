-- The lines of a program that have a statement, with the places of their statements and tests.
use Rattle.std.specs.Prelude.{ℕ, ◌<◌, ◌==◌, All, Bool, List, [], ◌∷◌, filter, map, if◌then◌else◌}
use Rattle.vap_code.specs.declared.Instr.{Instr}
use Rattle.trace_watch.specs.declared.places.Mark.{Mark}
use Rattle.trace_watch.specs.Places.{statements_in, tests_in}
use Rattle.trace_lines.specs.declared.rows.Row.{Row}

-- a line, and the places in the code of its statements and tests
pub record RowOf : Type 0 where
  pub line : ℕ
  pub statements : List ℕ
  pub tests : List ℕ

-- a row as the program holds it
abbrev pub row_in : Row → RowOf
row_in row = record { line = row.line; statements = row.statements.items; tests = row.tests.items }

-- the lines of marks behind one in this line: each that isn't the line before it
abbrev pub lines_behind : ℕ → List Mark → List ℕ
lines_behind line [] = []
lines_behind line (m ∷ ms) = if m.line == line then lines_behind line ms else m.line ∷ lines_behind m.line ms

-- the lines of marks; lines count from 1
abbrev pub lines_of : List Mark → List ℕ
lines_of marks = lines_behind 0 marks

-- whether a mark is in a line
abbrev pub is_in : ℕ → Mark → Bool
is_in line m = m.line == line

-- the place of a mark
abbrev pub place_of : Mark → ℕ
place_of m = m.place

-- the places of the marks in a line
abbrev pub places_in : ℕ → List Mark → List ℕ
places_in line marks = map place_of (filter (is_in line) marks)

-- the row of a line
abbrev pub row_of : (statements tests : List Mark) → ℕ → RowOf
row_of statements tests line =
    record { line = line; statements = places_in line statements; tests = places_in line tests }

-- the places of a row are places of a code with so many instructions
pub record IsRowWithin (places : ℕ) (row : RowOf) : Type 0 where
  pub statements : All (λ p. p < places) row.statements
  pub tests : All (λ p. p < places) row.tests

-- a row for each line in which a statement begins, in the order of the code
unfoldable pub rows_of : List Instr → List RowOf
rows_of instrs = map (row_of (statements_in instrs) (tests_in instrs)) (lines_of (statements_in instrs))
