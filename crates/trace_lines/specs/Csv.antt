-- The counts of lines as CSV.
use Rattle.std.specs.Prelude.{ℕ, List, [], ◌∷◌, ◌++◌, codes}
use Rattle.std.specs.Fmt.{decimal}
use Rattle.std.specs.List.{flat_map}
use Rattle.trace_lines.specs.declared.line.Answers.{Answers}
use Rattle.trace_lines.specs.Lines.{LineOf, no_of, times_of, total_by, yes_of}

-- how often tests were answered so, all added up; empty where there is no test
abbrev pub answers_text : (Answers → ℕ) → List Answers → List ℕ
answers_text answer [] = []
answers_text answer (test ∷ tests) = decimal (total_by answer (test ∷ tests))

-- the row of a line
unfoldable pub row_text : LineOf → List ℕ
row_text line =
    decimal line.number ++ codes "," ++ decimal line.seconds ++ codes "," ++ decimal (times_of line) ++ codes ","
    ++ answers_text yes_of line.tests ++ codes "," ++ answers_text no_of line.tests ++ codes "\n"

-- the header, and a row for each line with a statement
unfoldable pub csv_text : List LineOf → List ℕ
csv_text lines = codes "line,seconds,times,yes,no\n" ++ flat_map row_text lines
